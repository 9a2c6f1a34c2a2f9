use Rattle.std.proofs.Common.{◌∙◌, ◌∷◌, ap}
use Rattle.etcd_cluster.specs.Calls.{Compacted}
use Rattle.etcd_client.specs.declared.call_log.CallLog.{CallLog}
use Rattle.etcd_client.proofs.client.EtcdCluster.compact_noted.Goals as goal

pub returns-clause-noted : goal.returns-clause-noted
returns-clause-noted g c =
    c.compacted.ensures ∙ ap (λ (l : CallLog). Compacted c.args.version ∷ l.log.calls) c.ask_compaction-told.ensures.log

pub returns-clause-asked : goal.returns-clause-asked
returns-clause-asked g c = (c.ask_compaction-told.result, c.ask_compaction-told.ensures.asked)
