-- Beside Links: only the contracts of this crate's own parts and their proofs cite this, and those of what is known, no public clause.
use Rattle.std.specs.Prelude.{ℕ, true, false, Option, Some, None}
use Rattle.links.specs.Names.{Eq, Width, Value, Scalar, InScalar, Kind, RegFits, Link}
use Rattle.range.specs.Conditions.{HasAnswer}
use Rattle.links.specs.Links.{AreLinked, AreValuesLinked}

-- a set keeps all numbers that equal one of another in a width; none where there are no such numbers
abbrev pub IsEqualKept : Width → Scalar → Scalar → Option Scalar → Type 0
IsEqualKept w a b None = (x y : ℕ) → InScalar a x → InScalar b y → HasAnswer w Eq true x y → ⊥
IsEqualKept w a b (Some r) = (x y : ℕ) → InScalar a x → InScalar b y → HasAnswer w Eq true x y → InScalar r x

-- two sets keep all numbers that are linked; none where there are no such numbers
abbrev pub AreNumbersRefined : Link → Scalar → Scalar → Option (Scalar × Scalar) → Type 0
AreNumbersRefined link a b None = (x y : ℕ) → InScalar a x → InScalar b y → AreLinked link x y → ⊥
AreNumbersRefined link a b (Some r) = (x y : ℕ) → InScalar a x → InScalar b y → AreLinked link x y → InScalar r.0 x × InScalar r.1 y

-- two sets keep all numbers that both have; none where there are no such numbers
abbrev pub AreSameKept : Scalar → Scalar → Option (Scalar × Scalar) → Type 0
AreSameKept a b None = (x : ℕ) → InScalar a x → InScalar b x → ⊥
AreSameKept a b (Some r) = (x : ℕ) → InScalar a x → InScalar b x → InScalar r.0 x × InScalar r.1 x

-- a link keeps all values that are linked, and every shape; none where there are no such values
abbrev pub IsLinkRefined : Link → Kind → Kind → Option (Kind × Kind) → Type 0
IsLinkRefined link a b None = (v u : Option Value) → RegFits false a v → RegFits false b u → AreValuesLinked link v u → ⊥
IsLinkRefined link a b (Some r) =
    ((v u : Option Value) → RegFits false a v → RegFits false b u → AreValuesLinked link v u → RegFits false r.0 v × RegFits false r.1 u)
    × ((o : Option Value) → RegFits true a o → RegFits true r.0 o) × ((o : Option Value) → RegFits true b o → RegFits true r.1 o)
