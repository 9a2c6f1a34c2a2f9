use Rattle.std.proofs.Common.{◌≡◌, ◌<◌, ◌-◌, ℕ, false, length}
use Rattle.shelf.specs.Shelved.{slot_at}
use Rattle.shelf.specs.Looking.{is_expired}
use Rattle.shelf.proofs.shelf.Shelf.find_expired.Given as goal

abbrev pub invariant-loop-slot : goal.invariant-loop-slot
invariant-loop-slot g l = (k : ℕ) → k < l.slot → is_expired g.R.Lasts.until l.moment (slot_at l.self.slots.items k) ≡ false

abbrev pub decreases-loop-slot : goal.decreases-loop-slot
decreases-loop-slot g l = length l.self.slots.items - l.slot
