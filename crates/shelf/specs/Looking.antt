-- What a look at a shelf comes to.
use Rattle.std.specs.Prelude.{◌≡◌, ◌+◌, ◌-◌, ◌*◌, ◌<◌, ◌≤◌, ℕ, List, Bool, true, false, Option, Some, None, length, nat_le}
use Rattle.shelf.specs.declared.looking.Look.{Look}
use Rattle.shelf.specs.declared.looking.Look.TheVariants.{Gone, More, Done}
use Rattle.shelf.specs.declared.shelf.Shelf.{Shelf}
use Rattle.shelf.specs.declared.shelf.Slot.{Slot}
use Rattle.shelf.specs.Shelved.{AllLast, HasGone, IsShelved, Named, due, entries_of, slot_at, to_sort}

-- something is in the slot
abbrev pub is_held : {K R : Type 0} → Option (Slot K R) → Bool
is_held None = false
is_held (Some s) = true

-- what is in the slot has expired
abbrev pub is_expired : {R : Type 0} → (R → ℕ) → ℕ → Option (Named R) → Bool
is_expired until moment None = false
is_expired until moment (Some s) = nat_le (until s.kept) moment

-- the slot is due
pub record IsDueIn {R : Type 0} (until whose : R → ℕ) (shelf : Shelf R) (x : ℕ) : Type 0 where
  pub stands : IsShelved until whose shelf
  pub there : stands.timer x ≡ Some due

-- something is in the slot that has expired
pub record IsExpiredAt {R : Type 0} (until : R → ℕ) (shelf : Shelf R) (x moment : ℕ) : Type 0 where
  pub slot : Named R
  pub at : slot_at shelf.slots.items x ≡ Some slot
  pub expired : until slot.kept ≤ moment

-- nothing that has expired was left
abbrev pub is_done : {R : Type 0} → Look R → Bool
is_done (Gone r) = false
is_done More = false
is_done Done = true

-- How many looks there may be yet, at most, until nothing that is kept has expired at the moment: as each second comes each slot may be pending.
abbrev pub to_look : {R : Type 0} → Shelf R → ℕ → ℕ
to_look shelf moment = (2 * length shelf.slots.items + 1) * (moment + 1 - shelf.second) + to_sort shelf + length (entries_of shelf)

-- Something that had expired is not kept any more; or all is as it was; or it is, and nothing that is kept has expired.
abbrev pub LooksAt : {R : Type 0} → (R → ℕ) → (old new : List (List ℕ × R)) → ℕ → Look R → Type 0
LooksAt until old new moment (Gone r) = HasGone until old new moment r
LooksAt until old new moment More = new ≡ old
LooksAt until old new moment Done = (new ≡ old) × AllLast until new moment
