use Rattle.std.proofs.Common.{◌≡◌, ◌≤◌, ◌<◌, ◌-◌, ℕ, Some, slice_get}
use Rattle.event_loop.proofs.Names.{Place, Leaving}
use Rattle.event_loop.proofs.service.Service.is_one_leaving.Given as goal

abbrev pub invariant-loop-k : goal.invariant-loop-k
invariant-loop-k l = (j : ℕ) (place : Place) (left : ℕ) → j < l.k → slice_get l.self.places j ≡ Some place → place.stage ≡ Leaving left →
    ¬ (l.self.times.steady - place.came ≤ l.self.limits.crowded)
