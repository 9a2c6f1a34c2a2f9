use Rattle.std.proofs.Common.{length}
use Rattle.insn.specs.RunLaws.{IsAhead}
use Rattle.insn.proofs.places.skip.Given as goal

abbrev pub invariant-loop-rest : goal.invariant-loop-rest
invariant-loop-rest l = IsAhead l.insns l.slots l.rest l.left

abbrev pub decreases-loop-rest : goal.decreases-loop-rest
decreases-loop-rest l = length l.rest
