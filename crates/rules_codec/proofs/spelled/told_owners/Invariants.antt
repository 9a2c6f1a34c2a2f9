use Rattle.std.proofs.Common.{◌≡◌, map, take}
use Rattle.rules_codec.specs.Facts.{owner_fact}
use Rattle.rules_codec.specs.FactsParts.{spelled_owner}
use Rattle.rules_codec.proofs.spelled.told_owners.Given as goal

abbrev pub invariant-loop-owner : goal.invariant-loop-owner
invariant-loop-owner l = map owner_fact l.owners.items ≡ map spelled_owner (take l.owner-index l.spelled)
