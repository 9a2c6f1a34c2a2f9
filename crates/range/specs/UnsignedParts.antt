-- Beside Unsigned: only the contracts of this crate's own parts and their proofs cite this, no public clause.
use Rattle.std.specs.Prelude.{◌≡◌, ℕ, ◌+◌, ◌<◌, ◌≤◌, ◌^◌, Bool, IsTrue, Option, Some, None}
use Rattle.range.specs.Names.{Width, BinOp, int_width, result_in}
use Rattle.range.specs.Domain.{Keeps}
use Rattle.range.specs.Places.{LiesIn}
use Rattle.range.specs.Sets.{AreWithin, IsLeastRefined}
use Rattle.range.specs.declared.unsigned.URange.{URange}
use Rattle.range.specs.Unsigned.{InRange}

-- the range from the sum of the least words to that of the greatest
pub record EndsAtSums (a b r : URange) : Type 0 where
  pub least : r.least ≡ a.least + b.least
  pub greatest : r.greatest ≡ a.greatest + b.greatest

-- a result of an operation on numbers of a width has the results of all members
abbrev pub IsSoundIn : BinOp → Width → URange → URange → URange → Type 0
IsSoundIn op w a b c = (x y : ℕ) → InRange a x → InRange b y → InRange c (result_in (int_width w) op x y)

-- each number of a range is the place of a word
abbrev pub IsReached : (ℕ → ℕ) → URange → Type 0
IsReached place r = (n : ℕ) → n ≤ r.greatest → (x : ℕ) × (x < 2 ^ 64) × (place x ≡ n)

-- the least ranges that keep words whose places are related, wherever words have these
abbrev pub IsLeastPlaced : (ℕ → ℕ → Type 0) → URange → URange → Option (URange × URange) → Type 0
IsLeastPlaced Related a b r = (place : ℕ → ℕ) → IsReached place a → IsReached place b → IsLeastRefined (LiesIn place) (λ x y. Related (place x) (place y)) a b r

-- ranges that keep such words, and nothing that was not there; where these are in order, the least ranges
pub record AreCompared (Related : ℕ → ℕ → Type 0) (ordered : Bool) (a b : URange) (r : Option (URange × URange)) : Type 0 where
  pub kept : (place : ℕ → ℕ) → IsReached place a → IsReached place b → Keeps (LiesIn place) (λ x y. Related (place x) (place y)) a b r
  pub within : (place : ℕ → ℕ) → IsReached place a → IsReached place b → AreWithin (LiesIn place) a b r
  pub least : IsTrue ordered → IsLeastPlaced Related a b r

-- pairs the other way round
abbrev pub turned_round : Option (URange × URange) → Option (URange × URange)
turned_round None = None
turned_round (Some r) = Some (r.1, r.0)

-- the words of a kind are kept; none means that there is no such word
abbrev pub IsCutBy : {A : Type 0} → (A → ℕ → Type 0) → (ℕ → Type 0) → A → Option A → Type 0
IsCutBy Has Kind a None = (x : ℕ) → Has a x → Kind x → ⊥
IsCutBy Has Kind a (Some r) = (x : ℕ) → Has a x → Kind x → Has r x
