use Rattle.std.proofs.Common.{◌≡◌, length, map}
use Rattle.rules_beside.specs.Places.{first_moved}
use Rattle.rules_beside.proofs.places.moved_scope.Given as goal

abbrev pub decreases-loop-rest : goal.decreases-loop-rest
decreases-loop-rest l = length l.rest

abbrev pub invariant-loop-rest : goal.invariant-loop-rest
invariant-loop-rest l = first_moved (map (λ s. s.now) l.told) (map (λ s. s.now) l.now) ≡ first_moved (map (λ s. s.now) l.rest) (map (λ s. s.now) l.beside)
