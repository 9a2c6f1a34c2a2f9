use Rattle.std.proofs.Common.{◌≡◌, length, map}
use Rattle.std.specs.Prelude.{find}
use Rattle.rules_codec.specs.Facts.{owner_fact}
use Rattle.rules_beside.specs.Owners.{has_moved}
use Rattle.rules_beside.proofs.listed.Listed.first_moved.Given as goal

abbrev pub decreases-loop-rest : goal.decreases-loop-rest
decreases-loop-rest l = length l.rest

abbrev pub invariant-loop-rest : goal.invariant-loop-rest
invariant-loop-rest l = find (has_moved l.fn.self) (map owner_fact l.told) ≡ find (has_moved l.fn.self) (map owner_fact l.rest)
