use Rattle.std.proofs.Common.{rules}
use Rattle.serving.specs.Served.{none, more}
use Rattle.serving.proofs.serve.write_output.Goals as goal

pub writes-init : goal.writes-init
writes-init g c = none

pub writes-preserved : goal.writes-preserved
writes-preserved g c =
    let same = c.output-output.ensures.kept in
    more c.in-Ok.count c.writes.invariant (search rules) (rw same at c.in-Ok.ensures.within) (rw same at c.in-Ok.ensures.done) c.take.ensures.taken
