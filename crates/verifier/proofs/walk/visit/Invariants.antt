use Rattle.std.proofs.Common.{length, map}
use Rattle.std.specs.Box.{box_value}
use Rattle.verifier.proofs.Arriving.{Visiting}
use Rattle.verifier.specs.WaitsParts.{SpendsBehind}
use Rattle.verifier.proofs.walk.visit.Given as goal

abbrev pub decreases-loop-known : goal.decreases-loop-known
decreases-loop-known l = length l.cases

abbrev pub invariant-loop-known : goal.invariant-loop-known
invariant-loop-known l = Visiting l.layout l.insn l.slot l.fn.waiting.cases l.cases (map box_value l.passed.items) l.waiting.cases l.onward × SpendsBehind l.slot l.fn.waiting l.waiting
