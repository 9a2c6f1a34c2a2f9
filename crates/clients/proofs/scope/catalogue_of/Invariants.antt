use Rattle.std.proofs.Common.{◌≡◌, map, take}
use Rattle.clients.proofs.scope.catalogue_of.Given as goal

abbrev pub invariant-loop-name : goal.invariant-loop-name
invariant-loop-name l = l.catalogue ≡ map (λ s. s.now) (take l.name-index l.names)
