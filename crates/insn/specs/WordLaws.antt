-- Results of operations on words fit their width.
use Rattle.std.proofs.Common.{◌≡◌, ◌<◌, ◌≤◌, ℕ, ℤ, zero, suc, ◌%◌, ◌^◌, lt_of_le_of_lt, div-le_self, pow_pos, T, leb, arith}
use Rattle.insn.specs.Names.{and_le_l, mod_below, or_lt, xor_lt, Fits-of_z, sfits_to_z, sfits_widen, IntWidth, cast_signed, cast_unsigned, int_shr, swap_bytes, int_rem, Width, W32, W64, BinOp, Sub}
use Rattle.insn.specs.Names.{Div, Sdiv, Or, And, Rsh, Mod, Smod, Xor, Mov, Arsh, UnOp, Neg, Extend, SwapKind, ToLittle, SwapBits, ExtendBits}
use native.Mathlib.Nat.{mod-le}
use Rattle.std.specs.Int.{w32}
use Rattle.std.specs.Int.RustNames.{FitsSigned}
use Rattle.std.specs.Int.Signed.{mag, mag_rem, mag_shr}
use mir.Val.{bits, hbits}
use Rattle.insn.specs.declared.operation.UnOp.TheVariants.{Swap}
use Rattle.insn.specs.declared.operation.SwapBits.TheVariants as swapped
use Rattle.insn.specs.declared.operation.ExtendBits.TheVariants as extended
use Rattle.insn.specs.Word.{int_width, wrapped, seen, signed_quotient, signed_remainder, result_in, word_result, word_negated, swap_width, word_swapped, extend_width, word_extended, unary_result}

-- ---- numbers of a width

wrapped_fits : (w : IntWidth) (n : ℕ) → wrapped w n < 2 ^ bits w
wrapped_fits w n = mod_below n (2 ^ bits w) (pow_pos (bits w))

signed_fits : (w : IntWidth) (n : ℕ) → n < 2 ^ bits w → FitsSigned w (cast_signed w n)
signed_fits w n h = sfits_to_z {w = w} {n = n} (record { fits = h })

pub bits_fit : (w : IntWidth) (z : ℤ) → FitsSigned w z → cast_unsigned w z < 2 ^ bits w
bits_fit w z h = (Fits-of_z {w = w} {z = z} h).fits

-- a number no larger than the signed reading of one that fits
smaller_fits : (w : IntWidth) (n : ℕ) (z : ℤ) → n < 2 ^ bits w → mag z ≤ mag (cast_signed w n) → cast_unsigned w z < 2 ^ bits w
smaller_fits w n z h le = bits_fit w z (record { sfits = lt_of_le_of_lt le (signed_fits w n h).sfits })

remainder_fits : (w : IntWidth) (a b : ℕ) → a < 2 ^ bits w → signed_remainder w a b < 2 ^ bits w
remainder_fits w a zero h = h
remainder_fits w a (suc b) h =
    smaller_fits w a (int_rem (cast_signed w a) (cast_signed w (suc b))) h (mag_rem (cast_signed w a) (cast_signed w (suc b)))

quotient_fits : (w : IntWidth) (a b : ℕ) → signed_quotient w a b < 2 ^ bits w
quotient_fits w a zero = pow_pos (bits w)
quotient_fits w a (suc b) = wrapped_fits w _

shifted_fits : (w : IntWidth) (a k : ℕ) → a < 2 ^ bits w → cast_unsigned w (int_shr (cast_signed w a) k) < 2 ^ bits w
shifted_fits w a k h = smaller_fits w a (int_shr (cast_signed w a) k) h (mag_shr (cast_signed w a) (2 ^ k))

result_in_fits : (w : IntWidth) (op : BinOp) (a b : ℕ) → a < 2 ^ bits w → b < 2 ^ bits w → result_in w op a b < 2 ^ bits w
result_in_fits w Div a b h k = lt_of_le_of_lt (div-le_self a b) h
result_in_fits w Sdiv a b h k = quotient_fits w a b
result_in_fits w Or a b h k = or_lt (bits w) a b h k
result_in_fits w And a b h k = lt_of_le_of_lt (and_le_l a b) h
result_in_fits w Rsh a b h k = lt_of_le_of_lt (div-le_self a (2 ^ (b % bits w))) h
result_in_fits w Mod a b h k = lt_of_le_of_lt (mod-le a b) h
result_in_fits w Smod a b h k = remainder_fits w a b h
result_in_fits w Xor a b h k = xor_lt (bits w) a b h k
result_in_fits w Mov a b h k = k
result_in_fits w Arsh a b h k = shifted_fits w a (b % bits w) h
result_in_fits w op a b h k = wrapped_fits w _

-- ---- words

-- what fits a width is a word
pub word_in_width : (w : Width) (n : ℕ) → n < 2 ^ bits (int_width w) → n < 2 ^ 64
word_in_width W32 n h = omega arith
word_in_width W64 n h = h

-- what a width sees of a word fits it
pub seen_fits : (w : Width) (a : ℕ) → a < 2 ^ 64 → seen w a < 2 ^ bits (int_width w)
seen_fits W32 a h = wrapped_fits w32 a
seen_fits W64 a h = h

-- the result of an operation on words fits its width
pub word_result_fits : (w : Width) (op : BinOp) (a b : ℕ) → a < 2 ^ 64 → b < 2 ^ 64 → word_result w op a b < 2 ^ bits (int_width w)
word_result_fits w op a b h k = result_in_fits (int_width w) op (seen w a) (seen w b) (seen_fits w a h) (seen_fits w b k)

-- a negated word is its difference from 0
pub negated_is : (w : Width) (a : ℕ) → word_negated w a ≡ word_result w Sub 0 a
negated_is W32 a = omega arith
negated_is W64 a = omega arith

swap_bytes_fits : (n : SwapBits) (a : ℕ) → swap_bytes (swap_width n) a < 2 ^ bits (swap_width n)
swap_bytes_fits swapped.B16 a = omega arith
swap_bytes_fits n a = omega arith

-- a byte swap has no bits above those that it keeps
pub word_swapped_fits : (kind : SwapKind) (n : SwapBits) (a : ℕ) → word_swapped kind n a < 2 ^ bits (swap_width n)
word_swapped_fits ToLittle n a = wrapped_fits (swap_width n) a
word_swapped_fits kind n a = swap_bytes_fits n (wrapped (swap_width n) a)

word_swapped_is_word : (kind : SwapKind) (n : SwapBits) (a : ℕ) → word_swapped kind n a < 2 ^ 64
word_swapped_is_word kind swapped.B16 a = omega (arith, word_swapped_fits kind swapped.B16 a)
word_swapped_is_word kind n a = omega (arith, word_swapped_fits kind n a)

part_widens : (w : Width) (n : ExtendBits) → T (leb (hbits (extend_width n)) (hbits (int_width w)))
part_widens W32 extended.B8 = tt
part_widens W64 extended.B8 = tt
part_widens w n = tt

-- a sign extension fits the width that it extends to
pub word_extended_fits : (w : Width) (n : ExtendBits) (a : ℕ) → word_extended w n a < 2 ^ bits (int_width w)
word_extended_fits w n a =
    let small = signed_fits (extend_width n) (wrapped (extend_width n) a) (wrapped_fits (extend_width n) a) in
    bits_fit (int_width w) (cast_signed (extend_width n) (wrapped (extend_width n) a)) (sfits_widen (part_widens w n) small)

-- the result of an operation on one word is a word
pub image_is_word : (op : UnOp) (w : Width) (a : ℕ) → unary_result op w a < 2 ^ 64
image_is_word Neg w a = word_in_width w _ (wrapped_fits (int_width w) _)
image_is_word (Swap kind n) w a = word_swapped_is_word kind n a
image_is_word (Extend n) w a = word_in_width w _ (word_extended_fits w n a)
