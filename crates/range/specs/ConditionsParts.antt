-- Beside Conditions: only the contracts of this crate's own parts and their proofs cite this, no public clause.
use Rattle.std.specs.Prelude.{◌≡◌, ◌↔◌, ℕ, ◌<◌, ◌^◌, Bool, true, false, Option, Some, None, IsTrue}
use Rattle.range.specs.Names.{Width, W64, Cond, Set, int_width, holds_in, word_holds}
use Rattle.range.specs.Conditions.{says}
use Rattle.range.specs.Places.{signed_place}

-- a condition of numbers of a width has an answer
abbrev pub IsAnsweredIn : Width → Cond → Bool → ℕ → ℕ → Type 0
IsAnsweredIn w c taken x y = holds_in (int_width w) c x y ≡ taken

-- a condition that holds where another one has an answer
pub record IsMeant (c : Cond) (taken : Bool) (m : Cond) : Type 0 where
  pub same : (w : Width) (x y : ℕ) → IsAnsweredIn w m true x y ↔ IsAnsweredIn w c taken x y
  pub words : IsTrue (says c taken).words → IsTrue (says m true).words

-- no condition says that two words have no bit in common
abbrev pub Means : Cond → Bool → Option Cond → Type 0
Means c taken None = (c ≡ Set) × (taken ≡ false)
Means c taken (Some m) = IsMeant c taken m

-- a condition of two words is one of their places among signed numbers
pub record IsOfPlaces (c p : Cond) : Type 0 where
  pub same : (w : Width) (x y : ℕ) → x < 2 ^ 64 → y < 2 ^ 64 → word_holds w c x y ≡ word_holds W64 p (signed_place w x) (signed_place w y)
  pub orders : (taken : Bool) → IsTrue (says c taken).numbers → IsTrue (says p taken).words

-- none is where the order of signed numbers does not say it
abbrev pub ArePlaced : Cond → Option Cond → Type 0
ArePlaced c None = (taken : Bool) → IsTrue (says c taken).numbers → ⊥
ArePlaced c (Some p) = IsOfPlaces c p
