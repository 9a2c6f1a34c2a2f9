use Rattle.std.proofs.Common.{map, take}
use Rattle.rules_codec.specs.Facts.{owner_fact}
use Rattle.rules_beside.specs.OwnersParts.{AreKeys}
use Rattle.rules_beside.proofs.listed.keys_of.Given as goal

abbrev pub invariant-loop-owner : goal.invariant-loop-owner
invariant-loop-owner l = AreKeys l.keys.keys (map owner_fact (take l.owner-index l.owners))
