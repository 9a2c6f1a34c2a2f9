-- Laws of members.
use Rattle.std.specs.Prelude.{ℕ, ◌<◌, ◌^◌}
use Rattle.range.specs.Domain.{IsSingle}
use Rattle.scalar.specs.declared.scalar.Scalar.{Scalar}
use Rattle.scalar.specs.Members.{InScalar, LiesInEachJoin, ShowsOne}

-- a member is a word
pub InScalar-words : (s : Scalar) (x : ℕ) → InScalar s x → x < 2 ^ 64
InScalar-words s x h = h.unsigned.word

-- a value that shows one word has no other
pub shows_one : (s : Scalar) (x : ℕ) → ShowsOne s x → IsSingle InScalar s x
shows_one s x one y = (
  λ h. (one.unsigned y).0 h.unsigned,
  λ e. record { unsigned = (one.unsigned y).1 e; signed = (one.signed y).1 e; bits = (one.bits y).1 e; half = rw e one.half },
)

-- a value lies in each of its joins
pub lies_in_own : (a b : Scalar) → LiesInEachJoin a b a
lies_in_own a b = record {
  unsigned = λ s j x h. j.left x h.unsigned;
  signed = λ s j x h. j.left x h.signed;
  bits = λ s j x h. j.left x h.bits;
  half = λ s j x h. j.left x h.half;
}
