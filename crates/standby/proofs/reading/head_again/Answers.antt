use Rattle.etcd_client.specs.Past.{nothing}
use Rattle.standby.proofs.Listed.{head_reads, head_told, reads_on}
use Rattle.standby.proofs.reading.head_again.Goals as goal

pub tries-init : goal.tries-init
tries-init g c = nothing

pub tries-preserved : goal.tries-preserved
tries-preserved g c =
    reads_on _ _ _ c.tries.invariant (head_reads c.args.names.now.prefix.items c.args.cluster _ _ c.head_there.result c.head_there.ensures)

pub returns-in-Ok-clause-told : goal.returns-in-Ok-clause-told
returns-in-Ok-clause-told g c = head_told c.args.names.now.prefix.items c.args.cluster _ _ c.in-Ok.found (rw c.in-Ok.is at c.head_there.ensures)

pub returns-in-Ok-clause-reads : goal.returns-in-Ok-clause-reads
returns-in-Ok-clause-reads g c =
    reads_on _ _ _ c.tries.invariant (head_reads c.args.names.now.prefix.items c.args.cluster _ _ c.head_there.result c.head_there.ensures)

pub returns-in-Err-Refused-clause-reads : goal.returns-in-Err-Refused-clause-reads
returns-in-Err-Refused-clause-reads g c =
    reads_on _ _ _ c.tries.invariant (head_reads c.args.names.now.prefix.items c.args.cluster _ _ c.head_there.result c.head_there.ensures)

pub returns-in-Err-Memory-clause-reads : goal.returns-in-Err-Memory-clause-reads
returns-in-Err-Memory-clause-reads g c =
    reads_on _ _ _ c.tries.invariant (head_reads c.args.names.now.prefix.items c.args.cluster _ _ c.head_there.result c.head_there.ensures)
