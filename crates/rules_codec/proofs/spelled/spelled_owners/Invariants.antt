use Rattle.std.proofs.Common.{◌≡◌, map, take}
use Rattle.rules_codec.specs.Facts.{owner_fact}
use Rattle.rules_codec.specs.FactsParts.{spelled_owner}
use Rattle.rules_codec.proofs.spelled.spelled_owners.Given as goal

abbrev pub invariant-loop-owner : goal.invariant-loop-owner
invariant-loop-owner l = map spelled_owner l.spelled.items ≡ map owner_fact (take l.owner-index l.owners)
