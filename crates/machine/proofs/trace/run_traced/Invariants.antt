use Rattle.std.proofs.Common.{length}
use Rattle.machine.proofs.Names.{places, state_of}
use Rattle.machine.proofs.Telling.{IsToldAt}
use Rattle.machine.proofs.trace.run_traced.Given as goal

abbrev pub invariant-loop-rest : goal.invariant-loop-rest
invariant-loop-rest l = IsToldAt l.layout l.program l.fn.bytes l.slot l.rest (state_of l.frame l.bytes) l.steps.items

abbrev pub decreases-loop-rest : goal.decreases-loop-rest
decreases-loop-rest l = length (places l.rest)
