use Rattle.std.proofs.Common.{length}
use Rattle.verifier.proofs.Arriving.{Exploring}
use Rattle.verifier.proofs.explain.walk.Given as goal

abbrev pub decreases-loop-rest : goal.decreases-loop-rest
decreases-loop-rest l = length l.rest

abbrev pub invariant-loop-rest : goal.invariant-loop-rest
invariant-loop-rest l = Exploring l.layout l.program l.slot l.rest l.waiting.cases l.unreached.items l.onward.items l.waiting.apart
