use Rattle.standby.proofs.Listed.{listed_in, reads_on}
use Rattle.standby.proofs.reading.read_list.Goals as goal

pub tries-init : goal.tries-init
tries-init g c = reads_on _ _ _ c.in_ok-cluster.ensures.reads c.in_ok-refuse_other.ensures.reads

pub tries-preserved : goal.tries-preserved
tries-preserved g c = reads_on _ _ _ c.tries.invariant c.read_once-told.ensures.reads

pub returns-then-is_final-clause-reads : goal.returns-then-is_final-clause-reads
returns-then-is_final-clause-reads g c = reads_on _ _ _ c.tries.invariant c.read_once-told.ensures.reads

pub returns-then-is_final-clause-listed : goal.returns-then-is_final-clause-listed
returns-then-is_final-clause-listed g c =
    listed_in c.args.names.now.prefix.items c.in_ok-cluster.cluster _ c.read_once-told.result c.read_once-told.ensures.listed

pub returns-in_err-refuse_other-clause-reads : goal.returns-in_err-refuse_other-clause-reads
returns-in_err-refuse_other-clause-reads g c = reads_on _ _ _ c.in_ok-cluster.ensures.reads c.in_err-refuse_other.ensures.reads
