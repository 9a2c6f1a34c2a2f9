use Rattle.http_edge.proofs.Ends.{AreLowered}
use Rattle.http_edge.proofs.output.lower_ends.Given as goal

abbrev pub invariant-loop-i : goal.invariant-loop-i
invariant-loop-i l = AreLowered l.fn.ends.items l.ends.items l.i l.n
