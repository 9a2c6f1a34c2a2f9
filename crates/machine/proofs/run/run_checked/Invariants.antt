use Rattle.std.proofs.Common.{length}
use Rattle.machine.proofs.Names.{places, state_of}
use Rattle.machine.proofs.Runs.{IsAt}
use Rattle.machine.proofs.run.run_checked.Given as goal

abbrev pub invariant-loop-rest : goal.invariant-loop-rest
invariant-loop-rest l = IsAt l.layout l.program l.fn.bytes l.slot l.steps l.rest (state_of l.frame l.bytes)

abbrev pub decreases-loop-rest : goal.decreases-loop-rest
decreases-loop-rest l = length (places l.rest)
