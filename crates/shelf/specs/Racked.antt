-- What stands on a rack.
use Rattle.std.specs.Prelude.{◌≡◌, ◌+◌, ◌-◌, ◌%◌, ◌<◌, ◌≤◌, ℕ, List, Bool, true, Option, Some, None, if◌then◌else◌, length, min, nat_eq, nat_lt, slice_set}
use Rattle.std.specs.List.{IsDistinct}
use Rattle.std.specs.Map.{keys_of, set_value}
use Rattle.chains.specs.declared.chains.Chains.{Chains}
use Rattle.chains.specs.Chained.{Chained, moved}
use Rattle.chains.specs.Chained as chained
use Rattle.shelf.specs.declared.rack.Rack.{Rack}
use Rattle.shelf.specs.declared.shelf.Slot.{Slot}
use Rattle.shelf.specs.Keeping.{FindsBy, IsTakenBy, PutsBy}
use Rattle.shelf.specs.Shelved.{entries_in, slot_at}

-- what is kept, each under its number
abbrev pub rack_entries : {V : Type 0} → Rack V → List (ℕ × V)
rack_entries rack = entries_in rack.slots.items

-- What is in a slot is in the list of its number, of so many; an empty slot is in the list behind those, and what is no slot is in none.
abbrev pub number_place : {V : Type 0} → (lists count x : ℕ) → Option (Slot ℕ V) → Option ℕ
number_place lists count x None = if nat_lt x count then Some lists else None
number_place lists count x (Some s) = Some (s.key % lists)

abbrev pub place_in : {V : Type 0} → ℕ → List (Option (Slot ℕ V)) → ℕ → Option ℕ
place_in lists slots x = number_place lists (length slots) x (slot_at slots x)

-- the slots and the lists tell of one another, where these are the lists
pub record Racked {V : Type 0} (slots : List (Option (Slot ℕ V))) (names : Chains) (lists used : ℕ) (place : ℕ → Option ℕ) : Type 0 where
  pub named : Chained names place
  pub once : IsDistinct nat_eq (keys_of (entries_in slots))
  pub used_is : used ≡ length (entries_in slots)
  pub some : 1 ≤ lists
  pub heads : names.heads ≡ lists + 1
  pub cells : length names.cells.items ≡ names.heads + length slots

abbrev pub IsRacked : {V : Type 0} → Rack V → Type 0
IsRacked rack = Racked rack.slots.items rack.names rack.lists rack.used (place_in rack.lists rack.slots.items)

-- nothing is in the slot, and it is in no list
pub record Spared {V : Type 0} (slots : List (Option (Slot ℕ V))) (names : Chains) (lists used x : ℕ) : Type 0 where
  pub racked : Racked slots names lists used (moved (place_in lists slots) x None)
  pub inside : x < length slots
  pub empty : slot_at slots x ≡ None

abbrev pub IsSpare : {V : Type 0} → Rack V → ℕ → Type 0
IsSpare rack x = Spared rack.slots.items rack.names rack.lists rack.used x

-- so many more can be put there
abbrev pub rack_room : {V : Type 0} → Rack V → ℕ
rack_room rack = min rack.slots.room (chained.room rack.names)

-- this had the number, and is not kept any more
abbrev pub HasTakenOut : {V : Type 0} → (old new : List (ℕ × V)) → ℕ → V → Type 0
HasTakenOut old new number v = IsTakenBy nat_eq old new number v

-- it is kept too, in the place of what had the number
abbrev pub PutsIn : {V : Type 0} → (old new : List (ℕ × V)) → ℕ → V → Option V → Type 0
PutsIn old new number v was = PutsBy nat_eq old new number v was

-- it is found by the number, and by each other number what was
abbrev pub FindsIn : {V : Type 0} → (old new : List (ℕ × V)) → ℕ → V → Type 0
FindsIn old new number v = FindsBy nat_eq old new number v

-- the entries, with this in the place of what had the number
abbrev pub set_in : {V : Type 0} → List (ℕ × V) → ℕ → V → Option V → List (ℕ × V)
set_in es number v None = es
set_in es number v (Some was) = set_value (nat_eq number) es v

-- the number of what is in the slot, if it does not stay
abbrev pub leaving_in : {V : Type 0} → (V → Bool) → Option (Slot ℕ V) → Option ℕ
leaving_in stays None = None
leaving_in stays (Some s) = if stays s.kept then None else Some s.key

-- what is in the slot stays, if anything is
abbrev pub is_staying : {V : Type 0} → (V → Bool) → Option (Slot ℕ V) → Bool
is_staying stays None = true
is_staying stays (Some s) = stays s.kept

-- the slot is empty where what was in it does not stay, and nothing else has changed
abbrev pub HasCleared : {V : Type 0} → (V → Bool) → (old new : List (Option (Slot ℕ V))) → ℕ → Type 0
HasCleared stays old new x = new ≡ (if is_staying stays (slot_at old x) then old else slice_set old x None)
