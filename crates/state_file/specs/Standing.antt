-- What a state file stands for.
use Rattle.std.specs.Prelude.{◌≡◌, ◌++◌, ◌^◌, ◌==◌, ◌&&◌, ℕ, zero, suc, max, nat_lt, length, take, drop, List, [], ◌∷◌, Option, None, Some, IsSome, if◌then◌else◌, unwrap_or}
use Rattle.std.specs.Int.{w64, from_be_bytes, to_be_bytes}
use Rattle.consent.specs.History.{greatest_family, last_moment}
use Rattle.shortening.specs.Standing.{IsLeftOf}
use Rattle.state_file.specs.Names.{recovered, Event, HaveSpelling, batch_spelling}

-- A horizon tells until which moment what was told is kept: a byte 3, and the moment in eight bytes, the high one first.
abbrev pub horizon : ℕ → List ℕ
horizon until = 3 ∷ to_be_bytes w64 until

-- the moment of a horizon, which is below 2^63, if the batch is one, or begins with one
abbrev pub horizon_in : List ℕ → Option ℕ
horizon_in (suc (suc (suc zero)) ∷ bytes) =
    if nat_lt 7 (length bytes) && nat_lt (from_be_bytes w64 (take 8 bytes)) (2 ^ 63) then Some (from_be_bytes w64 (take 8 bytes)) else None
horizon_in _ = None

-- the horizon of a moment, if that is any
abbrev pub horizons : ℕ → List (List ℕ)
horizons until = if until == 0 then [] else horizon until ∷ []

-- the greatest moment of the horizons, 0 where there is none
abbrev pub until_of : List (List ℕ) → ℕ
until_of [] = 0
until_of (batch ∷ batches) = max (unwrap_or (horizon_in batch) 0) (until_of batches)

-- the bytes spell these dated changes
abbrev pub AreChanges : List ℕ → List Event → Type 0
AreChanges bytes facts = HaveSpelling facts × (bytes ≡ batch_spelling facts)

-- so do those behind a horizon, if there are any
abbrev pub AreBehind : List ℕ → List Event → Type 0
AreBehind [] facts = facts ≡ []
AreBehind bytes facts = AreChanges bytes facts

-- the batch has these dated changes: rules, which begin with a byte 0, have none, and behind a horizon there may be some
abbrev pub IsTold : List ℕ → List Event → Type 0
IsTold (zero ∷ rules) facts = facts ≡ []
IsTold (suc (suc (suc zero)) ∷ bytes) facts = IsSome (horizon_in (3 ∷ bytes)) × AreBehind (drop 8 bytes) facts
IsTold batch facts = AreChanges batch facts

-- the batches tell this list of dated changes, one after the other
abbrev pub AreTold : List (List ℕ) → List Event → Type 0
AreTold [] facts = facts ≡ []
AreTold (batch ∷ batches) facts = (first later : List Event) × IsTold batch first × AreTold batches later × (facts ≡ first ++ later)

-- The batches stand for the history: the list that they tell is left of it at the moment of its last change, and tells that moment
-- and the greatest number of a family.
pub record StandFor (batches : List (List ℕ)) (history : List Event) : Type 0 where
  pub facts : List Event
  pub told : AreTold batches facts
  pub left : IsLeftOf facts history (last_moment 0 history)
  pub moment : last_moment 0 facts ≡ last_moment 0 history
  pub number : greatest_family facts ≡ greatest_family history

-- the moment that batches tell: that of the last change, or a later horizon
abbrev pub moment_told : List (List ℕ) → List Event → ℕ
moment_told batches facts = max (last_moment 0 facts) (until_of batches)

-- a server that goes on from this moment goes on from no other than the batches tell
abbrev pub IsMomentTold : List (List ℕ) → ℕ → Type 0
IsMomentTold batches moment = (facts : List Event) → AreTold batches facts → moment ≡ moment_told batches facts

-- so do the bytes of a file, by their batches
abbrev pub StandsFor : List ℕ → List Event → Type 0
StandsFor left history = StandFor (recovered left) history
