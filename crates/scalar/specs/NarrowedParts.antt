-- Beside Narrowed: only the contracts of this crate's own parts and their proofs cite this, no public clause.
use Rattle.std.specs.Prelude.{◌≡◌, ◌⊎◌, ℕ, true, Bool, IsTrue}
use Rattle.insn.specs.declared.operation.Cond.{Cond}
use Rattle.insn.specs.declared.operation.Cond.TheVariants.{Eq}
use Rattle.insn.specs.declared.operation.Width.{Width}
use Rattle.insn.specs.declared.operation.Width.TheVariants.{W32, W64}
use Rattle.range.specs.Conditions.{HasAnswer, says}
use Rattle.range.specs.Sets.{IsLeastPair, IsWithin}
use Rattle.range.specs.Unsigned.{InRange}
use Rattle.range.specs.Signed.{InSignedRange}
use Rattle.range.specs.Half.{InHalfRange}
use Rattle.known_bits.specs.Refined.{IsTight}
use Rattle.scalar.specs.declared.scalar.Scalar.{Scalar}
use Rattle.scalar.specs.Members.{InScalar, ShowsOne}
use Rattle.scalar.specs.Narrowed.{Answer, HaveAnswer, said, SeesAll}

-- the width in which an answer is asked of whole words
pub record IsWidthAsked (w asked : Width) (c : Cond) (a b : Scalar) : Type 0 where
  pub own : (asked ≡ W64) ⊎ (asked ≡ w)
  pub whole : (taken : Bool) → IsTrue (says c taken).words → SeesAll w a b → asked ≡ W64

-- what an answer leaves of three parts of two values, each by itself
pub record ArePartsNarrowed (t : Answer) (a b : Scalar) (r : Scalar × Scalar) : Type 0 where
  pub within : IsWithin InScalar r.0 a × IsWithin InScalar r.1 b
  pub halves : (r.0.half ≡ a.half) × (r.1.half ≡ b.half)
  pub words : t.width ≡ W64 → IsTrue (said t).words → IsLeastPair InRange (HasAnswer W64 t.cond t.taken) a.unsigned b.unsigned r.0.unsigned r.1.unsigned
  pub numbers : t.width ≡ W64 → IsTrue (said t).numbers → IsLeastPair InSignedRange (HasAnswer W64 t.cond t.taken) a.signed b.signed r.0.signed r.1.signed
  pub tight : IsTrue (said t).equal → IsTight t.width a.bits b.bits (r.0.bits, r.1.bits)
  pub single : (x y : ℕ) → ShowsOne a x → ShowsOne b y → HaveAnswer t x y

-- what it leaves of their low halves; of equal words these are equal
pub record AreHalvesNarrowed (t : Answer) (a b : Scalar) (r : Scalar × Scalar) : Type 0 where
  pub within : IsWithin InScalar r.0 a × IsWithin InScalar r.1 b
  pub low : t.width ≡ W32 → IsTrue (said t).numbers → IsLeastPair InHalfRange (HasAnswer W32 t.cond t.taken) a.half b.half r.0.half r.1.half
  pub equal : t.width ≡ W64 → IsTrue (said t).equal → IsLeastPair InHalfRange (HasAnswer W32 Eq true) a.half b.half r.0.half r.1.half
