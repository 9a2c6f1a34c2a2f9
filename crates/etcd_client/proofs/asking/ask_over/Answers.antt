use Rattle.std.proofs.Common.{refl}
use Rattle.etcd_client.specs.Connections.{text_of_token}
use Rattle.etcd_client.proofs.Connected.{asked_over}
use Rattle.etcd_client.proofs.asking.ask_over.Goals as goal

pub returns-clause-asked : goal.returns-clause-asked
returns-clause-asked g c =
    asked_over g.S.Write.contents g.S.Read.remaining (text_of_token c.args.token) c.args.attempt.now _ c.args.caller.now c.exchange-told.new.self c.exchange-told.result
    refl refl refl c.exchange-told.ensures.exchanged
