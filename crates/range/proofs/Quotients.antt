-- Quotients and remainders of signed numbers.
use Rattle.std.proofs.Common.{◌≡◌, ℕ, zero, suc, ℤ, pos, negsuc, ◌^◌, ◌<◌, ◌+ℤ◌, ◌-ℤ◌, ◌≤ℤ◌, ◌<ℤ◌, FitsSigned, w64, ap, ◌∙◌, arith}
use Rattle.range.proofs.Names.{cast_signed, int_max, int_min, int_div, int_rem, Fits-of_z, sfits_to_z, mod-eq_of_lt, mod-le, ints, clamps, to_z-of_z, quot_fits, rem_is, mod_below, signed_quotient}
use Rattle.range.proofs.Names.{signed_remainder}
use Rattle.range.proofs.Numbers.{div_mono}
use Rattle.range.proofs.SignedNumbers.{fits_between}

-- by a positive number they are in the order of the dividends
pub quotient_order : (a x d : ℤ) → pos 0 <ℤ d → a ≤ℤ x → int_div a d ≤ℤ int_div x d
quotient_order (pos i) (pos j) (pos n) positive h =
    let up = div_mono i n j n (omega (arith, ints)) (omega (arith, ints)) (omega arith) in
    omega (arith, ints)
quotient_order (negsuc i) (negsuc j) (pos n) positive h =
    let up = div_mono (suc j) n (suc i) n (omega (arith, ints)) (omega (arith, ints)) (omega arith) in
    omega (arith, ints)
quotient_order (negsuc i) (pos j) (pos n) positive h = omega (arith, ints)
quotient_order a x d positive h = absurd (omega (arith, ints))

fits_reading : (x : ℕ) → x < 2 ^ 64 → FitsSigned w64 (cast_signed w64 x)
fits_reading x h = sfits_to_z {w = w64} {n = x} (record { fits = h })

-- what the quotient of two words reads as
pub quotient_reading : (x y : ℕ) → x < 2 ^ 64 → pos 0 <ℤ cast_signed w64 y → cast_signed w64 (signed_quotient w64 x y) ≡ int_div (cast_signed w64 x) (cast_signed w64 y)
quotient_reading x zero h positive = absurd (omega (arith, ints))
quotient_reading x (suc n) h positive =
    let z = int_div (cast_signed w64 x) (cast_signed w64 (suc n)) in
    let fits : FitsSigned w64 z = quot_fits w64 (cast_signed w64 x) (cast_signed w64 (suc n)) (fits_reading x h) positive in
    ap (cast_signed w64) (mod-eq_of_lt (Fits-of_z {w = w64} {z = z} fits).fits) ∙ to_z-of_z w64 z fits

-- ---- remainders by a positive number

-- it is less than the divisor, and no further from 0 than the dividend, that lies between two numbers about 0
pub record IsRemainder (l g d r : ℤ) : Type 0 where
  pub above : pos 0 <ℤ (r +ℤ d)
  pub below : r <ℤ d
  pub least : l ≤ℤ r
  pub greatest : r ≤ℤ g

pub remainder_is : (l g x d : ℤ) → pos 0 <ℤ d → l ≤ℤ x → l ≤ℤ pos 0 → x ≤ℤ g → pos 0 ≤ℤ g → IsRemainder l g d (int_rem x d)
remainder_is l g x (negsuc n) positive above low below high = absurd (omega (arith, ints))
remainder_is l g (pos i) (pos n) positive above low below high =
    let less = mod_below i n (omega (arith, ints)) in
    let small = mod-le i n in
    record { above = omega (arith, ints); below = omega (arith, ints); least = omega (arith, ints); greatest = omega (arith, ints) }
remainder_is l g (negsuc i) (pos n) positive above low below high =
    let less = mod_below (suc i) n (omega (arith, ints)) in
    let small = mod-le (suc i) n in
    record { above = omega (arith, ints); below = omega (arith, ints); least = omega (arith, ints); greatest = omega (arith, ints) }

pub within_ends : (l g d r : ℤ) → IsRemainder l g d r → (int_max l (pos 1 -ℤ d) ≤ℤ r) × (r ≤ℤ int_min g (d -ℤ pos 1))
within_ends l g d r h =
    (omega (arith, ints, clamps), omega (arith, ints, clamps))

-- the least and the greatest remainder by a number that fits
pub ends_fit : (d : ℤ) → FitsSigned w64 d → pos 0 <ℤ d → FitsSigned w64 (pos 1 -ℤ d) × FitsSigned w64 (d -ℤ pos 1)
ends_fit (pos n) fits positive =
    let zero : FitsSigned w64 (pos 0) = record { sfits = omega arith } in
    let bottom : FitsSigned w64 (negsuc 9223372036854775807) = record { sfits = omega arith } in (
      fits_between (negsuc 9223372036854775807) (pos 1 -ℤ pos n) (pos 0) bottom zero (omega (arith, ints)) (omega (arith, ints)),
      fits_between (pos 0) (pos n -ℤ pos 1) (pos n) zero fits (omega (arith, ints)) (omega (arith, ints)),
    )
ends_fit (negsuc n) fits positive = absurd (omega (arith, ints))

-- a number that is nearer to 0 than the divisor is its own remainder
pub remainder_same : (x d : ℤ) → pos 0 <ℤ (x +ℤ d) → x <ℤ d → int_rem x d ≡ x
remainder_same (pos i) (pos n) h k = let less : i < n = omega (arith, ints) in let same = mod-eq_of_lt less in omega (arith, ints)
remainder_same (negsuc i) (pos n) h k = let less : suc i < n = omega (arith, ints) in let same = mod-eq_of_lt less in omega (arith, ints)
remainder_same x d h k = absurd (omega (arith, ints))

pub remainder_reading : (x y : ℕ) → x < 2 ^ 64 → y < 2 ^ 64 → pos 0 <ℤ cast_signed w64 y → cast_signed w64 (signed_remainder w64 x y) ≡ int_rem (cast_signed w64 x) (cast_signed w64 y)
remainder_reading x zero h k positive = absurd (omega (arith, ints))
remainder_reading x (suc n) h k positive =
    let a = cast_signed w64 x in
    let d = cast_signed w64 (suc n) in
    rw (to_z-of_z w64 a (fits_reading x h), to_z-of_z w64 d (fits_reading (suc n) k)) at (rem_is w64 a d (fits_reading x h) (fits_reading (suc n) k))
