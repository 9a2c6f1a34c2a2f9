-- What stands on a shelf.
use Rattle.std.specs.Prelude.{◌≡◌, ◌≢◌, ◌⊎◌, ◌+◌, ◌-◌, ◌*◌, ◌%◌, ◌==◌, ◌&&◌, ◌<◌, ◌≤◌, ℕ, zero, suc, List, [], ◌∷◌, Bool, true, false, not, Option, Some, None, get_or, if◌then◌else◌, is_some, length, min, nat_lt}
use Rattle.std.specs.HashMap.{spare}
use Rattle.std.specs.Int.{w32, from_le_bytes}
use Rattle.std.specs.List.{IsDistinct}
use Rattle.std.specs.Map.{keys_of, lookup, set_value}
use Rattle.std.specs.Str.{bytes_eq}
use Rattle.chains.specs.declared.chains.Chains.{Chains}
use Rattle.chains.specs.Chained.{Chained, left}
use Rattle.chains.specs.Chained as chained
use Rattle.shelf.specs.declared.shelf.Shelf.{Shelf}
use Rattle.shelf.specs.declared.shelf.Facts.{Facts}
use Rattle.shelf.specs.declared.shelf.Slot.{Slot}
use Rattle.shelf.specs.declared.tally.Tally.{Tally}
use Rattle.shelf.specs.Keeping.{FindsBy, IsTakenBy, PutsBy}
use Rattle.shelf.specs.Tallying.{share}

-- ENTRIES

-- what is kept under a digest
abbrev pub Named : Type 0 → Type 0
Named R = Slot (List ℕ) R

abbrev pub entry_of : {K R : Type 0} → Slot K R → K × R
entry_of s = (s.key, s.kept)

-- what is in the slots, each under its digest
abbrev pub entries_in : {K R : Type 0} → List (Option (Slot K R)) → List (K × R)
entries_in [] = []
entries_in (None ∷ ss) = entries_in ss
entries_in (Some s ∷ ss) = entry_of s ∷ entries_in ss

abbrev pub entries_of : {R : Type 0} → Shelf R → List (List ℕ × R)
entries_of shelf = entries_in shelf.slots.items

-- what is in the slot
abbrev pub slot_at : {K R : Type 0} → List (Option (Slot K R)) → ℕ → Option (Slot K R)
slot_at slots x = get_or slots x None

-- the key names it, by a test of keys
abbrev pub is_keyed : {K R : Type 0} → (K → K → Bool) → K → Option (Slot K R) → Bool
is_keyed eq key None = false
is_keyed eq key (Some s) = eq key s.key

-- the digest names it
abbrev pub is_named : {R : Type 0} → List ℕ → Option (Named R) → Bool
is_named digest o = is_keyed bytes_eq digest o

-- what the lists and the tally tell of it
abbrev pub facts_of : {R : Type 0} → (until whose : R → ℕ) → Named R → Facts
facts_of until whose s = record { digest = s.key; until = until s.kept; whose = whose s.kept }

-- something is in the slot of which this is so
abbrev pub in_slot : {K R : Type 0} → (R → Bool) → Option (Slot K R) → Bool
in_slot p None = false
in_slot p (Some s) = p s.kept

-- it has not expired at the moment
abbrev pub lasts : {R : Type 0} → (R → ℕ) → ℕ → R → Bool
lasts until moment r = nat_lt moment (until r)

-- and is of whose number this is
abbrev pub lasts_of : {R : Type 0} → (until whose : R → ℕ) → (c moment : ℕ) → R → Bool
lasts_of until whose c moment r = nat_lt moment (until r) && (whose r == c)

-- LISTS

-- the first four bytes of a digest
abbrev pub word_of : List ℕ → ℕ
word_of digest = from_le_bytes w32 (get_or digest 0 0 ∷ get_or digest 1 0 ∷ get_or digest 2 0 ∷ get_or digest 3 0 ∷ [])

-- the list of what the digest names, of so many
abbrev pub bucket : ℕ → List ℕ → ℕ
bucket heads digest = word_of digest % heads

abbrev pub name_place : {R : Type 0} → ℕ → Option (Named R) → Option ℕ
name_place heads None = None
name_place heads (Some s) = Some (bucket heads s.key)

-- so many lists by the second of expiry; then that of what is pending, that of what is due, and that of the free slots
abbrev pub seconds : ℕ
seconds = 65536

abbrev pub pending : ℕ
pending = 65536

abbrev pub due : ℕ
due = 65537

abbrev pub free : ℕ
free = 65538

abbrev pub lists_of_wheel : ℕ
lists_of_wheel = 65539

-- the list of what expires then, where this second is next: what is of a second that is over is due
abbrev pub list_for : (second until : ℕ) → ℕ
list_for second until = if nat_lt until second then due else until % seconds

-- An empty slot is in some list, and what is no slot is in none. What is in a slot is in the list of when it expires, or pending.
abbrev pub IsTimed : {R : Type 0} → (R → ℕ) → (second count x : ℕ) → Option (Named R) → Option ℕ → Type 0
IsTimed until second count x None place = (x < count → is_some place ≡ true) × (count ≤ x → place ≡ None)
IsTimed until second count x (Some s) place = (place ≡ Some pending) ⊎ (place ≡ Some (list_for second (until s.kept)))

-- TALLIES

-- what is in the list counts, unless it is due
abbrev pub is_counted : Option ℕ → Bool
is_counted None = false
is_counted (Some list) = not (list == due)

abbrev pub weight : {R : Type 0} → (R → Bool) → Option ℕ → Option (Named R) → ℕ
weight p place None = 0
weight p place (Some s) = if is_counted place && p s.kept then 1 else 0

-- how many of those that count are such, where these are the lists of the slots
abbrev pub count_timed : {R : Type 0} → (R → Bool) → (ℕ → Option ℕ) → List (Option (Named R)) → ℕ
count_timed p timer [] = 0
count_timed p timer (o ∷ os) = weight p (timer zero) o + count_timed p (λ x. timer (suc x)) os

abbrev pub is_any : {R : Type 0} → R → Bool
is_any r = true

abbrev pub is_of : {R : Type 0} → (R → ℕ) → ℕ → R → Bool
is_of whose c r = whose r == c

-- the tally is of those that count
pub record Tallied {R : Type 0} (whose : R → ℕ) (slots : List (Option (Named R))) (timer : ℕ → Option ℕ) (tally : Tally) : Type 0 where
  pub all : tally.all ≡ count_timed is_any timer slots
  pub each : (c : ℕ) → share tally c ≡ count_timed (is_of whose c) timer slots

-- TIES

-- The slots, the lists and the tally tell of one another. One slot may be loose: nothing is in it, and it is in no list by time.
pub record Shelved {R : Type 0} (until whose : R → ℕ) (slots : List (Option (Named R))) (names wheel : Chains) (tally : Tally) (used second : ℕ) (timer : ℕ → Option ℕ)
    (loose : Option ℕ) : Type 0 where
  pub named : Chained names (λ x. name_place names.heads (slot_at slots x))
  pub timed : Chained wheel timer
  pub times : (x : ℕ) → loose ≢ Some x → IsTimed until second (length slots) x (slot_at slots x) (timer x)
  pub loosed : (x : ℕ) → loose ≡ Some x → (timer x ≡ None) × ((x < length slots) × (slot_at slots x ≡ None))
  pub tallied : Tallied whose slots timer tally
  pub once : IsDistinct bytes_eq (keys_of (entries_in slots))
  pub used_is : used ≡ length (entries_in slots)
  pub some : 1 ≤ names.heads
  pub all : wheel.heads ≡ lists_of_wheel
  pub name_cells : length names.cells.items ≡ names.heads + length slots
  pub time_cells : length wheel.cells.items ≡ wheel.heads + length slots

abbrev pub ShelvedBy : {R : Type 0} → (until whose : R → ℕ) → Shelf R → (ℕ → Option ℕ) → Option ℕ → Type 0
ShelvedBy until whose shelf timer loose =
    Shelved until whose shelf.slots.items shelf.names shelf.wheel shelf.tally shelf.used shelf.second timer loose

-- some may be pending
pub record Stands {R : Type 0} (until whose : R → ℕ) (shelf : Shelf R) (loose : Option ℕ) : Type 0 where
  pub timer : ℕ → Option ℕ
  pub shelved : ShelvedBy until whose shelf timer loose

abbrev pub IsLoose : {R : Type 0} → (until whose : R → ℕ) → Shelf R → ℕ → Type 0
IsLoose until whose shelf x = Stands until whose shelf (Some x)

abbrev pub IsShelved : {R : Type 0} → (until whose : R → ℕ) → Shelf R → Type 0
IsShelved until whose shelf = Stands until whose shelf None

-- how many slots are pending, and how many are due: those in which nothing is any more too
abbrev pub pending_left : {R : Type 0} → Shelf R → ℕ
pending_left shelf = left shelf.wheel pending

abbrev pub due_left : {R : Type 0} → Shelf R → ℕ
due_left shelf = left shelf.wheel due

-- How many looks those take at most: one that is pending may be due then.
abbrev pub to_sort : {R : Type 0} → Shelf R → ℕ
to_sort shelf = 2 * pending_left shelf + due_left shelf

-- none is pending
pub record IsSettled {R : Type 0} (until whose : R → ℕ) (shelf : Shelf R) : Type 0 where
  pub stands : IsShelved until whose shelf
  pub none : pending_left shelf ≡ 0

-- what has expired at the moment is due, and nothing else is
abbrev pub is_noticed : {R : Type 0} → Shelf R → ℕ → Bool
is_noticed shelf moment = (shelf.second == moment + 1) && (pending_left shelf == 0)

-- the tally counts what is in the slot, or it does not
pub record IsCountedAs {R : Type 0} (until whose : R → ℕ) (shelf : Shelf R) (x : ℕ) (counts : Bool) : Type 0 where
  pub stands : IsShelved until whose shelf
  pub is : is_counted (stands.timer x) ≡ counts

-- something is in the slot
pub record IsHeldAt {R : Type 0} (shelf : Shelf R) (x : ℕ) : Type 0 where
  pub slot : Named R
  pub at : slot_at shelf.slots.items x ≡ Some slot

-- ROOM

-- for so many slots more there is room
abbrev pub slot_room : {R : Type 0} → Shelf R → ℕ
slot_room shelf = min shelf.slots.room (min (chained.room shelf.names) (chained.room shelf.wheel))

-- so many more can be put there
abbrev pub room : {R : Type 0} → Shelf R → ℕ
room shelf = min (slot_room shelf) (spare shelf.tally.of)

-- CHANGES

-- this was kept under the digest, and is not any more
abbrev pub HasTaken : {R : Type 0} → (old new : List (List ℕ × R)) → List ℕ → R → Type 0
HasTaken old new digest r = IsTakenBy bytes_eq old new digest r

-- something that had expired is not kept any more, which was kept
pub record HasGone {R : Type 0} (until : R → ℕ) (old new : List (List ℕ × R)) (moment : ℕ) (r : R) : Type 0 where
  pub digest : List ℕ
  pub taken : HasTaken old new digest r
  pub expired : until r ≤ moment

-- nothing that is kept has expired
abbrev pub AllLast : {R : Type 0} → (R → ℕ) → List (List ℕ × R) → ℕ → Type 0
AllLast {R} until entries moment = (digest : List ℕ) (r : R) → lookup (bytes_eq digest) entries ≡ Some r → moment < until r

-- it is kept too, in the place of what was kept under the digest
abbrev pub Puts : {R : Type 0} → (old new : List (List ℕ × R)) → List ℕ → R → Option R → Type 0
Puts old new digest r was = PutsBy bytes_eq old new digest r was

-- it is found under the digest, and under each other digest what was
abbrev pub Finds : {R : Type 0} → (old new : List (List ℕ × R)) → List ℕ → R → Type 0
Finds old new digest r = FindsBy bytes_eq old new digest r

-- the entries, with that of the digest used
abbrev pub spent_in : {R : Type 0} → (R → R) → List ℕ → List (List ℕ × R) → Option R → List (List ℕ × R)
spent_in spent digest es None = es
spent_in spent digest es (Some r) = set_value (bytes_eq digest) es (spent r)
