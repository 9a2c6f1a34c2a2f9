use Rattle.std.proofs.Common.{◌∙◌, ◌∷◌, ap}
use Rattle.etcd_cluster.specs.Calls.{Sent}
use Rattle.etcd_cluster.specs.Stands.{change_fact}
use Rattle.etcd_client.specs.declared.call_log.CallLog.{CallLog}
use Rattle.etcd_client.proofs.client.EtcdCluster.send_noted.Goals as goal

pub returns-clause-noted : goal.returns-clause-noted
returns-clause-noted g c =
    c.sent.ensures ∙ ap (λ (l : CallLog). Sent (change_fact c.args.change.now) c.answer_of-answer.result ∷ l.log.calls) c.change-told.ensures.log

pub returns-clause-asked : goal.returns-clause-asked
returns-clause-asked g c =
    (c.change-told.result, c.answer_of-answer.ensures.by, c.change-told.ensures.asked)
