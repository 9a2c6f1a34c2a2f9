use Rattle.std.proofs.Common.{◌≡◌, map, take}
use Rattle.clients.specs.Bounds.{owner_had, owner_said}
use Rattle.clients.proofs.owner.Owners.bounds.Given as goal

abbrev pub invariant-loop-owner : goal.invariant-loop-owner
invariant-loop-owner l = map owner_said l.bounds.items ≡ map owner_had (take l.owner-index l.owner-items)
