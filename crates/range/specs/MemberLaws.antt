-- Laws of members: each is a word, and a range of low halves goes by these.
use Rattle.std.specs.Prelude.{◌≡◌, ℕ, ◌<◌, ◌%◌, ◌^◌}
use Rattle.std.proofs.Common.{arith, ◌+◌}
use Rattle.insn.specs.declared.operation.Width.TheVariants.{W32}
use Rattle.range.specs.declared.unsigned.URange.{URange}
use Rattle.range.specs.declared.signed.SRange.{SRange}
use Rattle.range.specs.declared.half.HalfRange.{HalfRange}
use Rattle.range.specs.Places.{signed_place}
use Rattle.range.specs.Unsigned.{InRange}
use Rattle.range.specs.Signed.{InSignedRange}
use Rattle.range.specs.Half.{InHalfRange}

pub range_words : (r : URange) (x : ℕ) → InRange r x → x < 2 ^ 64
range_words r x h = h.word

pub signed_words : (r : SRange) (x : ℕ) → InSignedRange r x → x < 2 ^ 64
signed_words r x h = h.word

-- a word with the low half of a member is one
pub same_low : (r : HalfRange) (x y : ℕ) → y < 2 ^ 64 → y % 2 ^ 32 ≡ x % 2 ^ 32 → InHalfRange r x → InHalfRange r y
same_low r x y fits e h =
    let place : signed_place W32 y ≡ signed_place W32 x = omega arith in
    record { word = fits; above = rw place h.above; below = rw place h.below }
