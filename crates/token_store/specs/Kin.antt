-- The families of a store, as they are seen.
use Rattle.std.specs.Prelude.{ℕ, List, [], Option, Some, None}
use Rattle.shelf.specs.declared.rack.Rack.{Rack}
use Rattle.shelf.specs.declared.shelf.Slot.{Slot}
use Rattle.shelf.specs.Racked.{IsRacked, rack_entries, rack_room}
use Rattle.shelf.specs.Seated.{Seats}
use Rattle.token_store.specs.declared.record.Shared.{Shared}

-- what those of each number share, and for how many more there is memory
pub record Kin : Type 0 where
  pub entries : List (ℕ × Shared)
  pub room : ℕ

abbrev pub kin_of : Option (Rack Shared) → Kin
kin_of None = record { entries = []; room = 0 }
kin_of (Some rack) = record { entries = rack_entries rack; room = rack_room rack }

-- the rack, if there is one, is as it has to be
abbrev pub IsRackedIfAny : Option (Rack Shared) → Type 0
IsRackedIfAny None = Unit {0}
IsRackedIfAny (Some rack) = IsRacked rack

-- what is in the slots, if there are any
abbrev pub seated : Option (Seats ℕ Shared) → List (Option (Slot ℕ Shared))
seated None = []
seated (Some slots) = slots.items
