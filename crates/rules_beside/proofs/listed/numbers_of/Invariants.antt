use Rattle.std.proofs.Common.{map, take}
use Rattle.rules_codec.specs.Facts.{owner_fact}
use Rattle.rules_beside.specs.OwnersParts.{AreNumbers}
use Rattle.rules_beside.proofs.listed.numbers_of.Given as goal

abbrev pub invariant-loop-owner : goal.invariant-loop-owner
invariant-loop-owner l = AreNumbers l.numbers.entries (map owner_fact (take l.owner-index l.owners))
