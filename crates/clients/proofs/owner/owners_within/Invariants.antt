use Rattle.std.proofs.Common.{◌≡◌, length, map, take}
use Rattle.clients.specs.Bounds.{owner_had, owner_said}
use Rattle.clients.specs.RegistryRules.{AreOwners}
use Rattle.clients.proofs.owner.owners_within.Given as goal

abbrev pub invariant-loop-bound : goal.invariant-loop-bound
invariant-loop-bound l =
    (length l.owners.owners ≡ l.bound-index)
    × (l.owners.numbered ≡ l.numbered)
    × (map owner_had l.owners.owners ≡ map owner_said (take l.bound-index l.bounds))
    × AreOwners l.owners.owners
