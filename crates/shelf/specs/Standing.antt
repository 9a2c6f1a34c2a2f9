-- What stands on a shelf, if there is one.
use Rattle.std.specs.Prelude.{ℕ, List, [], Option, Some, None}
use Rattle.shelf.specs.declared.shelf.Shelf.{Shelf}
use Rattle.shelf.specs.declared.stand.Stand.{Stand}
use Rattle.shelf.specs.Looking.{to_look}
use Rattle.shelf.specs.Shelved.{IsShelved, Named, entries_in, room}

abbrev pub slots_or_none : {R : Type 0} → Option (Shelf R) → List (Option (Named R))
slots_or_none None = []
slots_or_none (Some shelf) = shelf.slots.items

abbrev pub stand_slots : {R : Type 0} → Stand R → List (Option (Named R))
stand_slots stand = slots_or_none stand.shelf

-- what is kept, each under its digest
abbrev pub stand_entries : {R : Type 0} → Stand R → List (List ℕ × R)
stand_entries stand = entries_in (stand_slots stand)

abbrev pub room_or_none : {R : Type 0} → Option (Shelf R) → ℕ
room_or_none None = 0
room_or_none (Some shelf) = room shelf

-- so many more can be put there
abbrev pub stand_room : {R : Type 0} → Stand R → ℕ
stand_room stand = room_or_none stand.shelf

abbrev pub to_look_or_none : {R : Type 0} → Option (Shelf R) → ℕ → ℕ
to_look_or_none None moment = 0
to_look_or_none (Some shelf) moment = to_look shelf moment

-- how many looks there may be yet, at most, until nothing that is kept has expired at the moment
abbrev pub stand_to_look : {R : Type 0} → Stand R → ℕ → ℕ
stand_to_look stand moment = to_look_or_none stand.shelf moment

abbrev pub IsShelvedIfAny : {R : Type 0} → (until whose : R → ℕ) → Option (Shelf R) → Type 0
IsShelvedIfAny until whose None = Unit {0}
IsShelvedIfAny until whose (Some shelf) = IsShelved until whose shelf

-- the shelf, if there is one, is as it has to be
abbrev pub IsStanding : {R : Type 0} → (until whose : R → ℕ) → Stand R → Type 0
IsStanding until whose stand = IsShelvedIfAny until whose stand.shelf
