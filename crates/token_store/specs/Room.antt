-- What room a store has for changes.
use Rattle.std.specs.Prelude.{◌≡◌, ◌⊎◌, ◌+◌, ◌<◌, ◌≤◌, ℕ, List, [], ◌∷◌, true, Option, Some, None, is_some, option_map}
use Rattle.shelf.specs.Standing.{stand_room}
use Rattle.consent.specs.declared.change.Change.{Change}
use Rattle.consent.specs.declared.change.Change.TheVariants.{CodeGiven, Issued}
use Rattle.token_store.specs.declared.record.Shared.{Shared}
use Rattle.token_store.specs.declared.tables.Coming.{Coming}
use Rattle.token_store.specs.declared.tables.Tables.{Tables}
use Rattle.consent.specs.RecordFacts.{KindFact}
use Rattle.token_store.specs.Kept.{Room, Held}
use Rattle.token_store.specs.Records.{kept_of, family_numbered, shared_at, is_coded, OwnerKey, code_shared, home_shared, texts_seen, texts_given}

-- how many codes and tokens the change gives
abbrev pub records_by : Change → ℕ
records_by (CodeGiven family facts digest) = 1
records_by (Issued home token) = 1
records_by _ = 0

abbrev pub records_of : List Change → ℕ
records_of [] = 0
records_of (c ∷ cs) = records_by c + records_of cs

-- so many records more can be kept
abbrev pub HasSpare : Room → ℕ → Type 0
HasSpare room n = n ≤ room.records

-- the family is there without records, and is of whom the one that comes is
pub record Waits (families : List (ℕ × Shared)) (n : ℕ) (s : Shared) : Type 0 where
  pub there : is_some (family_numbered families n) ≡ true
  pub empty : (shared_at families n).count ≡ 0
  pub alike : (key : OwnerKey) → is_coded key (family_numbered families n) ≡ is_coded key (Some s)

-- such a one is expected, in the family, which has no records
pub record IsExpected (room : Room) (family : ℕ) (s : Shared) (texts : Option KindFact) : Type 0 where
  pub coming : Coming
  pub is : room.coming ≡ Some coming
  pub number_is : coming.number ≡ family
  pub texts_are : option_map texts_seen coming.texts ≡ texts
  pub waits : Waits room.families family s

-- nothing is expected, and the family has records
pub record IsPeopled (room : Room) (family : ℕ) : Type 0 where
  pub is : room.coming ≡ None
  pub some : 0 < (shared_at room.families family).count

-- the first of the changes has its family, where it gives a code or token
abbrev pub IsReady : Room → List Change → Type 0
IsReady room (CodeGiven family facts digest ∷ cs) = IsExpected room family (code_shared facts 0) (Some (texts_given facts)) ⊎ IsPeopled room family
IsReady room (Issued home token ∷ cs) = IsExpected room home.family (home_shared home 0) None ⊎ IsPeopled room home.family
IsReady room _ = Unit {0}

-- there is room for the changes
pub record HasRoomFor (room : Room) (changes : List Change) : Type 0 where
  pub spare : HasSpare room (records_of changes)
  pub ready : IsReady room changes

-- the store has room for the changes
abbrev pub HasRoom : Held → List Change → Type 0
HasRoom store changes = HasRoomFor store.room changes

-- what room the tables have
abbrev pub room_of : Tables → Room
room_of t = record {
  records = stand_room t.records;
  families = t.families.entries;
  coming = t.coming;
}

-- the tables as they are seen
abbrev pub held_of : Tables → Held
held_of t = record { kept = kept_of t; last = t.last; room = room_of t }
