use Rattle.std.proofs.Common.{◌≡◌, length}
use Rattle.state_file.proofs.Names.{lists, max, until_of}
use Rattle.state_file.proofs.horizons.until_of.Given as goal

abbrev pub decreases-loop-rest : goal.decreases-loop-rest
decreases-loop-rest l = length l.rest

abbrev pub invariant-loop-rest : goal.invariant-loop-rest
invariant-loop-rest l = until_of (lists l.batches) ≡ max l.until (until_of (lists l.rest))
