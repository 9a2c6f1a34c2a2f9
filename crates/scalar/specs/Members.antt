-- The words of an unsigned range, a signed range, known bits and a range of low halves together.
use Rattle.std.specs.Prelude.{◌≡◌, ◌↔◌, ℕ, Option, Some, None}
use Rattle.insn.specs.declared.operation.Cond.{Cond}
use Rattle.insn.specs.declared.operation.Width.{Width}
use Rattle.insn.specs.Word.{word_holds}
use Rattle.range.specs.Domain.{IsJoin, IsSingle}
use Rattle.range.specs.Unsigned.{InRange}
use Rattle.range.specs.Signed.{InSignedRange}
use Rattle.range.specs.Half.{InHalfRange}
use Rattle.known_bits.specs.Members.{HasBits}
use Rattle.scalar.specs.declared.scalar.Scalar.{Scalar}

-- a word that is in each of the four
pub record InScalar (s : Scalar) (x : ℕ) : Type 0 where
  pub unsigned : InRange s.unsigned x
  pub signed : InSignedRange s.signed x
  pub bits : HasBits s.bits x
  pub half : InHalfRange s.half x

-- each of the three that can be one word is this word alone, and its low half is in the fourth
pub record ShowsOne (s : Scalar) (x : ℕ) : Type 0 where
  pub unsigned : IsSingle InRange s.unsigned x
  pub signed : IsSingle InSignedRange s.signed x
  pub bits : IsSingle HasBits s.bits x
  pub half : InHalfRange s.half x

-- each word of a value is in every join of two sets
abbrev pub LiesInJoins : {A : Type 0} → (A → ℕ → Type 0) → A → A → Scalar → Type 0
LiesInJoins {A = A} Has a b c = (s : A) → IsJoin Has a b s → (x : ℕ) → InScalar c x → Has s x

-- each word of a value is in every join of two others, part by part
pub record LiesInEachJoin (a b c : Scalar) : Type 0 where
  pub unsigned : LiesInJoins InRange a.unsigned b.unsigned c
  pub signed : LiesInJoins InSignedRange a.signed b.signed c
  pub bits : LiesInJoins HasBits a.bits b.bits c
  pub half : LiesInJoins InHalfRange a.half b.half c

-- a value with the same members; none where there is no member
abbrev pub HasSame : Scalar → Option Scalar → Type 0
HasSame s None = (x : ℕ) → InScalar s x → ⊥
HasSame s (Some t) = (x : ℕ) → InScalar t x ↔ InScalar s x

-- a condition has one answer for members in two widths
abbrev pub IsAskedAlike : Cond → Width → Width → Scalar → Scalar → Type 0
IsAskedAlike c v w a b = (x y : ℕ) → InScalar a x → InScalar b y → word_holds v c x y ≡ word_holds w c x y
