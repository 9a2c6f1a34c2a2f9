-- The words whose low halves lie between two signed numbers.
use Rattle.std.specs.Prelude.{◌≡◌, ◌↔◌, ℕ, ◌<◌, ◌%◌, ◌^◌, Bool, true, false}
use Rattle.range.specs.Names.{Width, W32, W64, BinOp, Div, Sdiv, Lsh, Rsh, Mod, Smod, Arsh, UnOp, unary_result, word_result}
use Rattle.insn.specs.declared.operation.UnOp.TheVariants.{Neg, Swap, Extend}
use Rattle.range.specs.Places.{LiesIn, signed_place, number_at}
use Rattle.range.specs.Signed.{least_of, greatest_of}
use Rattle.range.specs.declared.unsigned.URange.{URange}
use Rattle.range.specs.declared.signed.SRange.{SRange}
use Rattle.range.specs.declared.half.HalfRange.{HalfRange}

abbrev pub places_of : HalfRange → URange
places_of r = record { least = r.least; greatest = r.greatest; ordered = r.ordered }

-- a word is at the place of its low half's signed reading
abbrev pub InHalfRange : HalfRange → ℕ → Type 0
InHalfRange r x = LiesIn (signed_place W32) (places_of r) x

-- the low half of a result is that of the result in 64 bits of all words that have the operands' low halves
abbrev pub is_told : BinOp → Width → Bool
is_told Div w = false
is_told Sdiv w = false
is_told Lsh W32 = false
is_told Rsh w = false
is_told Mod w = false
is_told Smod w = false
is_told Arsh w = false
is_told op w = true

-- the low halves of the operands tell that of the result
abbrev pub IsDetermined : BinOp → Width → Type 0
IsDetermined op W32 = Unit {0}
IsDetermined op W64 = is_told op W64 ≡ true

abbrev pub IsDeterminedImage : UnOp → Type 0
IsDeterminedImage Neg = Unit {0}
IsDeterminedImage (Swap kind n) = ⊥
IsDeterminedImage (Extend n) = Unit {0}

-- the words that have the low half of one
abbrev pub IsHalf : HalfRange → ℕ → Type 0
IsHalf r x = (y : ℕ) → y < 2 ^ 64 → InHalfRange r y ↔ (y % 2 ^ 32 ≡ x % 2 ^ 32)

-- where the low halves tell that of the result, those of one low half each give one alone
abbrev pub IsSingleHalf : BinOp → Width → HalfRange → HalfRange → HalfRange → Type 0
IsSingleHalf op w a b c = IsDetermined op w → (x y : ℕ) → x < 2 ^ 64 → y < 2 ^ 64 → IsHalf a x → IsHalf b y → IsHalf c (word_result w op x y)

abbrev pub IsSingleHalfImage : UnOp → Width → HalfRange → HalfRange → Type 0
IsSingleHalfImage op w a c = IsDeterminedImage op → (x : ℕ) → x < 2 ^ 64 → IsHalf a x → IsHalf c (unary_result op w x)

-- two ranges have the same ends
pub record HaveOneEnds (r : SRange) (s : HalfRange) : Type 0 where
  pub least : least_of r ≡ number_at W32 s.least
  pub greatest : greatest_of r ≡ number_at W32 s.greatest
