use Rattle.etcd_client.specs.Past.{nothing}
use Rattle.standby.proofs.Listed.{cluster_reads, reads_on}
use Rattle.standby.proofs.copying.cluster_told.Goals as goal

pub tries-init : goal.tries-init
tries-init g c = nothing

pub tries-preserved : goal.tries-preserved
tries-preserved g c = reads_on _ _ _ c.tries.invariant (cluster_reads c.args.names.now.prefix.items c.cluster_of.result _ _ c.cluster_of.ensures)

pub returns-in-Ok-clause-reads : goal.returns-in-Ok-clause-reads
returns-in-Ok-clause-reads g c = reads_on _ _ _ c.tries.invariant (cluster_reads c.args.names.now.prefix.items c.cluster_of.result _ _ c.cluster_of.ensures)

pub returns-in-Err-Refused-clause-reads : goal.returns-in-Err-Refused-clause-reads
returns-in-Err-Refused-clause-reads g c = reads_on _ _ _ c.tries.invariant (cluster_reads c.args.names.now.prefix.items c.cluster_of.result _ _ c.cluster_of.ensures)

pub returns-in-Err-Memory-clause-reads : goal.returns-in-Err-Memory-clause-reads
returns-in-Err-Memory-clause-reads g c = reads_on _ _ _ c.tries.invariant (cluster_reads c.args.names.now.prefix.items c.cluster_of.result _ _ c.cluster_of.ensures)
