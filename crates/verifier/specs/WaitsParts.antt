-- Beside Waits: only the contracts of this crate's own parts and their proofs cite this, no public clause.
use Rattle.std.specs.Prelude.{◌≡◌, ◌⊎◌, Bool, true, false, ℕ, ℤ, pos, ◌+◌, ◌-◌, ◌<◌, ◌≤◌, sum_by, List, [], ◌∷◌, ◌++◌, Box, IsSome, is_some, Option, Some, None, Ok, length, map, slice_index_or, take}
use Rattle.verifier.specs.Names.{box_value, filter_map, option_map, Insn, Layout, walk_fault_at, Exit}
use Rattle.std.specs.declared.alloc.Global.{Global}
use Rattle.verifier.specs.declared.cases.Held.{Held}
use Rattle.verifier.specs.declared.cases.Held.TheVariants.{Nothing, One, Several}
use Rattle.verifier.specs.declared.known.Known.{Known}
use Rattle.verifier.specs.declared.known.Test.{Test}
use Rattle.verifier.specs.declared.walk.Onward.{Onward}
use Rattle.verifier.specs.declared.walk.Passage.{Passage}
use Rattle.verifier.specs.declared.walk.Passage.TheVariants as passage
use Rattle.verifier.specs.declared.walk.Upshot.{Upshot}
use Rattle.verifier.specs.declared.walk.Upshot.TheVariants.{Passed, Refused}
use Rattle.verifier.specs.Kinds.{LeavesKnown}
use Rattle.verifier.specs.Waits.{AreBothPushed, IsJoinedIn, IsMerged, IsPassed, IsRefusedAt, IsRefusedHere, IsTestSettled, IsVisited, IsWayPushed, nowhere, onward_by_both, onward_by_test, onward_from, onward_of}

-- what waits at slots, and how often a case may still come to stand beside others
pub record AtSlots : Type 0 where
  pub cases : List (List Known)
  pub apart : ℕ

-- how many cases wait at a slot beside the first, and at all slots
abbrev pub beside : List Known → ℕ
beside cases = length cases - 1

abbrev pub all_beside : List (List Known) → ℕ
all_beside w = sum_by beside w

-- no more cases have come to stand beside others than were spent for that
abbrev pub Spends : AtSlots → AtSlots → Type 0
Spends old now = all_beside now.cases + now.apart ≤ all_beside old.cases + old.apart

-- the same, where what waited at a slot was taken
abbrev pub SpendsBehind : ℕ → AtSlots → AtSlots → Type 0
SpendsBehind slot old now = all_beside now.cases + now.apart + beside (slice_index_or old.cases slot []) ≤ all_beside old.cases + old.apart

-- a case has come to others: at most one more waits, and none more where it does not stand beside them
abbrev pub IsCounted : List Known → List Known → Bool → Type 0
IsCounted old now true = length now ≤ length old + 1
IsCounted old now false = length now ≡ length old

-- a jump stays among so many slots
abbrev pub IsFar : Option ℤ → ℕ → ℕ → Type 0
IsFar None behind slots = Unit {0}
IsFar (Some d) behind slots = (k : ℕ) × (d ≡ pos k) × (behind + k < slots)

-- what is known where a test has an answer has come to a slot, and it is told whether anything is
abbrev pub IsWayTold : List (List Known) → ℕ → Test → Bool → Known → List (List Known) → Bool → Type 0
IsWayTold old to test answer known now may = (way : IsWayPushed old to test answer known now) × (may ≡ is_some way.there)

-- what is known on both ways of a conditional jump has come to two slots, and it is told where that goes on
abbrev pub AreBothTold : List (List Known) → ℕ → ℕ → Test → Known → List (List Known) → Onward → Type 0
AreBothTold old behind to test known now onward = (both : AreBothPushed old behind to test known now) × (onward ≡ onward_by_both both)

-- the same by the distance of the jump
abbrev pub IsTestTold : ℤ → Test → ℕ → Known → List (List Known) → List (List Known) → Onward → Type 0
IsTestTold d test behind known old now onward =
    (settled : IsTestSettled d test behind known old now) × (onward ≡ onward_by_test d test behind known old now settled)

-- what is found at an instruction behind which there is no slot, where this was known before it
abbrev pub IsLastPassage : Layout → Insn → ℕ → ℕ → Known → Passage → Type 0
IsLastPassage layout i slot slots known (passage.Passed onward) =
    (after : Known) × LeavesKnown layout i known after (Ok Exit) × (onward ≡ nowhere)
IsLastPassage layout i slot slots known (passage.Refused fault before) = IsRefusedAt layout i slot known slots fault × (before.value ≡ known)

-- what is found at an instruction, where this was known before it
abbrev pub IsPassage : Layout → Insn → ℕ → Known → List (List Known) → List (List Known) → Passage → Type 0
IsPassage layout i slot known old now (passage.Passed onward) = (p : IsPassed layout i slot known old now) × (onward ≡ onward_of p)
IsPassage layout i slot known old now (passage.Refused fault before) = IsRefusedAt layout i slot known (length old) fault × (before.value ≡ known)

-- what is found at an instruction
abbrev pub IsVisit : Layout → Insn → ℕ → List (List Known) → List (List Known) → Upshot → Type 0
IsVisit layout i slot old now (Passed onward) = (v : IsVisited layout i slot old now) × (onward ≡ onward_from v)
IsVisit layout i slot old now (Refused fault before others) =
    (r : IsRefusedHere layout i slot old (walk_fault_at fault slot)) × (r.known ≡ before.value) × (map box_value others.items ≡ r.before ++ r.after)

-- a copy of a case is kept, where others wait behind it
abbrev pub IsCopy : Known → List Known → Option Known → Type 0
IsCopy known [] copy = copy ≡ None
IsCopy known (other ∷ others) copy = copy ≡ Some known

-- the first of some cases is taken from them
abbrev pub IsFirst : List Known → Option Known → List Known → Type 0
IsFirst old None now = (old ≡ []) × (now ≡ [])
IsFirst old (Some first) now = old ≡ first ∷ now

-- the first place of some that holds a case
abbrev pub IsFirstPlace : List (Option (Box Known Global)) → Option ℕ → Type 0
IsFirstPlace places None = filter_map (option_map box_value) places ≡ []
IsFirstPlace places (Some place) =
    (filter_map (option_map box_value) (take place places) ≡ []) × IsSome (slice_index_or places place None)

-- the cases in some places
abbrev pub cases_in : List (Option (Box Known Global)) → List Known
cases_in places = filter_map (option_map box_value) places

-- the cases that are held so
abbrev pub cases_held : Held → List Known
cases_held Nothing = []
cases_held (One known) = known.value ∷ []
cases_held (Several places) = cases_in places.value

-- of some cases none is joined, or one with another
abbrev pub HasRoomMade : List Known → List Known → Type 0
HasRoomMade old now = (now ≡ old) ⊎ IsMerged old now

-- a case that comes has been joined with one of those in some places, or a place is free for it
abbrev pub IsRoomFor : List (Option (Box Known Global)) → Known → List (Option (Box Known Global)) → Option ℕ → Type 0
IsRoomFor old known now None = IsJoinedIn (cases_in old) known (cases_in now)
IsRoomFor old known now (Some place) = (slice_index_or now place None ≡ None) × HasRoomMade (cases_in old) (cases_in now)
