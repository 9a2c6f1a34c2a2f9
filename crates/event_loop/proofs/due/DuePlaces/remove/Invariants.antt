use Rattle.std.proofs.Common.{◌≡◌, ◌≤◌, ◌<◌, ℕ, false, Some, slice_get}
use Rattle.event_loop.proofs.due.DuePlaces.remove.Given as goal

abbrev pub invariant-loop-self : goal.invariant-loop-self
invariant-loop-self l = (l.self-inside.flags ≡ l.initial.self-inside.flags) × (l.self-inside.end ≤ 64)
    × ((k : ℕ) → l.self-inside.end ≤ k → k < 64 → slice_get l.self-inside.flags k ≡ Some false)

abbrev pub decreases-loop-self : goal.decreases-loop-self
decreases-loop-self l = l.self-inside.end
