use Rattle.std.proofs.Common.{◌≡◌, length, map}
use Rattle.rules_codec.specs.Facts.{owner_fact}
use Rattle.rules_beside.specs.OwnersParts.{are_told}
use Rattle.rules_beside.proofs.listed.Listed.has_all.Given as goal

abbrev pub decreases-loop-rest : goal.decreases-loop-rest
decreases-loop-rest l = length l.rest

abbrev pub invariant-loop-rest : goal.invariant-loop-rest
invariant-loop-rest l = are_told (map owner_fact l.owners) l.fn.self ≡ are_told (map owner_fact l.rest) l.fn.self
