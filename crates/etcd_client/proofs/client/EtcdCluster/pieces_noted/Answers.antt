use Rattle.std.proofs.Common.{◌∙◌, ◌∷◌, ap}
use Rattle.etcd_cluster.specs.Calls.{AskedPieces}
use Rattle.etcd_cluster.specs.Worlds.{seen_pieces}
use Rattle.etcd_client.specs.declared.call_log.CallLog.{CallLog}
use Rattle.etcd_client.proofs.client.EtcdCluster.pieces_noted.Goals as goal

pub returns-clause-noted : goal.returns-clause-noted
returns-clause-noted g c =
    c.asked_pieces.ensures ∙ ap (λ (l : CallLog). AskedPieces c.args.wanted (seen_pieces c.pieces_of-found.result) ∷ l.log.calls) c.ask_pieces-told.ensures.log

pub returns-clause-asked : goal.returns-clause-asked
returns-clause-asked g c =
    (c.ask_pieces-told.result, c.pieces_of-found.ensures, c.ask_pieces-told.ensures.asked)
