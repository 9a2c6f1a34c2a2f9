use Rattle.std.proofs.Common.{◌∙◌, ◌∷◌, ap}
use Rattle.etcd_cluster.specs.Calls.{AskedHead}
use Rattle.etcd_client.specs.declared.call_log.CallLog.{CallLog}
use Rattle.etcd_client.proofs.client.EtcdCluster.head_noted.Goals as goal

pub returns-clause-noted : goal.returns-clause-noted
returns-clause-noted g c =
    c.asked_head.ensures ∙ ap (λ (l : CallLog). AskedHead c.head_of-found.result ∷ l.log.calls) c.ask_head-told.ensures.log

pub returns-clause-asked : goal.returns-clause-asked
returns-clause-asked g c =
    (c.ask_head-told.result, c.head_of-found.ensures.by, c.ask_head-told.ensures.asked)
