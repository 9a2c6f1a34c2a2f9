-- Low halves of words, and of results of operations on words.
use Rattle.std.proofs.Common.{◌≡◌, ℕ, ℤ, true, pos, negsuc, zero, suc, lt_of_le_of_lt, ◌+◌, ◌-◌, ◌*◌, ◌%◌, ◌^◌, ◌<◌, ◌≤◌, ◌≤ℤ◌, ◌<ℤ◌, FitsSigned, ◌⊎◌, inl, inr, bit_and, w8, w16, w32, w64, sym, ap, ◌∙◌, refl, arith}
use Rattle.range.proofs.Names.{IntWidth, cast_signed, cast_unsigned, int_shr, mag_shr, mag_rem, int_div, int_rem, sfits_to_z, sfits_widen, cases_lt, ints, to_z-of_z, of_z-to_z, to_z_pos, and_mod}
use Rattle.range.proofs.Names.{or_mod, xor_mod, mul-mod, mul-mod_first, and_mask, pow-add, mul_assoc, div-le_self, Width, W32, W64, BinOp, Add, Sub, Mul, Sdiv, Or, And, Lsh, Smod, Xor, Mov, Arsh}
use Rattle.range.proofs.Names.{ExtendBits, B8, B16, B32, extend_width, int_width, signed_quotient, signed_remainder, unary_result, word_extended, word_result, wrapped, word_extended_fits}
use Rattle.range.proofs.Names.{word_in_width, word_result_fits, InHalfRange, IsDeterminedImage, IsHalf, is_told, places_of, same_low, URange, LiesIn}
use Rattle.range.proofs.Names.{signed_place, InRange}
use mir.Val.{bits}
use Rattle.insn.specs.declared.operation.UnOp.{UnOp}
use Rattle.insn.specs.declared.operation.UnOp.TheVariants.{Neg, Swap, Extend}
use Rattle.range.specs.declared.half.HalfRange.{HalfRange}
use Rattle.range.specs.HalfParts.{HasResults}

-- the low half of a word, read as a signed number
abbrev low_reading : ℕ → ℤ
low_reading x = cast_signed w32 (x % 2 ^ 32)

-- ---- the low half with its sign in the upper half

-- what a sign extension adds to a number
abbrev pub IsSpread : ℕ → ℕ → Type 0
IsSpread p m = ((p < 2147483648) × (m ≡ p)) ⊎ ((2147483648 ≤ p) × (m ≡ p + 18446744069414584320))

negative_reading : (p : ℕ) → 2147483648 ≤ p → p < 4294967296 → cast_unsigned w64 (cast_signed w32 p) ≡ p + 18446744069414584320
negative_reading p h k = grind (arith, ints)

pub extended_is : (x : ℕ) → IsSpread (x % 2 ^ 32) (word_extended W64 B32 x)
extended_is x = elim (cases_lt (x % 2 ^ 32) 2147483648) [
  | inl low ↦ inl (low, ap (cast_unsigned w64) (to_z_pos w32 (x % 2 ^ 32) low))
  | inr high ↦ inr (high, negative_reading (x % 2 ^ 32) high (omega arith))
]

pub extended_low : (x : ℕ) → word_extended W64 B32 x % 2 ^ 32 ≡ x % 2 ^ 32
extended_low x = elim (extended_is x) [ inl low ↦ omega (arith, low.1) | inr high ↦ omega (arith, high.1) ]

pub extended_reading : (x : ℕ) → cast_signed w64 (word_extended W64 B32 x) ≡ low_reading x
extended_reading x =
    let small : FitsSigned w32 (low_reading x) = sfits_to_z {w = w32} {n = x % 2 ^ 32} (record { fits = omega arith }) in
    to_z-of_z w64 (low_reading x) (sfits_widen tt small)

-- ---- places

pub extended_place : (x : ℕ) → signed_place W64 (word_extended W64 B32 x) ≡ signed_place W32 x + 9223372034707292160
extended_place x = elim (extended_is x) [ inl low ↦ omega (arith, low.0, low.1) | inr high ↦ omega (arith, high.0, high.1) ]

-- the place of a low half, by that of its word
pub low_place : (x : ℕ) → signed_place W32 x ≡ (signed_place W64 x + 2147483648) % 4294967296
low_place x = omega arith

pub low_back : (x : ℕ) → signed_place W32 (signed_place W32 x) ≡ x % 2 ^ 32
low_back x = omega arith

-- ---- words by their low halves

-- a place of a low half is a word of the places
pub place_lies : (r : HalfRange) (p : URange) (x : ℕ) → p ≡ places_of r → InHalfRange r x → InRange p (signed_place W32 x)
place_lies r p x e h =
    rw e (record { word = omega arith; above = omega arith; below = omega arith })

-- a place of a low half is that of the word
pub low_same : (x : ℕ) → signed_place W32 (x % 2 ^ 32) ≡ signed_place W32 x
low_same x = omega arith

pub lies_at : (r : URange) (x : ℕ) → x < 2 ^ 64 → InRange r (signed_place W32 x) → LiesIn (signed_place W32) r x
lies_at r x fits h = record { word = fits; above = h.above; below = h.below }

-- the ends of a range of one low half are its place
pub half_ends_same : (r : HalfRange) (x : ℕ) → r.greatest < 2 ^ 32 → IsHalf r x → (r.least ≡ signed_place W32 x) × (r.greatest ≡ signed_place W32 x)
half_ends_same r x fits one =
    let low = (one ((r.least + 2 ^ 31) % 2 ^ 32) (omega arith)).0 (record { word = omega arith; above = omega arith; below = omega arith }) in
    let high = (one ((r.greatest + 2 ^ 31) % 2 ^ 32) (omega arith)).0 (record { word = omega arith; above = omega arith; below = omega arith }) in
    (omega arith, omega arith)

pub half_by_ends : (r : HalfRange) (x : ℕ) → r.least ≡ signed_place W32 x → r.greatest ≡ signed_place W32 x → IsHalf r x
half_by_ends r x low high y fits = (
  (λ h. omega arith),
  (λ e. record { word = fits; above = omega arith; below = omega arith }),
)

pub same_half : (r : HalfRange) (x y : ℕ) → y % 2 ^ 32 ≡ x % 2 ^ 32 → IsHalf r x → IsHalf r y
same_half r x y e one = rw e one

-- ---- operations

-- what has the results of a function has those of an operation that have the same low halves
pub by_low : (op : BinOp) (w : Width) (a b c : HalfRange) (f : ℕ → ℕ → ℕ) → HasResults f a b c → ((x y : ℕ) → y < 2 ^ 64 → word_result w op x y % 2 ^ 32 ≡ f x y % 2 ^ 32) → HasResults (word_result w op) a b c
by_low op w a b c f h same = record {
  has = λ x y hx hy. same_low c (f x y) (word_result w op x y) (word_in_width w _ (word_result_fits w op x y hx.word hy.word)) (same x y hy.word) (h.has x y hx hy);
  single = λ x y hx hy ha hb. same_half c (f x y) (word_result w op x y) (same x y hy) (h.single x y hx hy ha hb);
}

shift_same : (y n : ℕ) → n % 2 ^ 32 ≡ y % 2 ^ 32 → 2 ^ (n % 64) ≡ 2 ^ (y % 64)
shift_same y n e = ap (λ (k : ℕ). 2 ^ k) (omega arith)

raised_low : (x k : ℕ) → ((x * k) % 2 ^ 64) % 2 ^ 32 ≡ ((x % 2 ^ 32) * k) % 2 ^ 32
raised_low x k = omega (arith, mul-mod_first x k (2 ^ 32))

-- the low half of a result in 64 bits is that of the result in 32 bits
pub narrow_low : (op : BinOp) (x y : ℕ) → is_told op W32 ≡ true → y < 2 ^ 64 → word_result W64 op x y % 2 ^ 32 ≡ word_result W32 op x y % 2 ^ 32
narrow_low Add x y told h = omega arith
narrow_low Sub x y told h = omega arith
narrow_low Mul x y told h = omega (arith, mul-mod x y (2 ^ 32))
narrow_low Or x y told h = omega (arith, or_mod x y 32)
narrow_low And x y told h = omega (arith, and_mod x y 32)
narrow_low Xor x y told h = omega (arith, xor_mod x y 32)
narrow_low Mov x y told h = omega arith
narrow_low op x y told h = absurd cc

-- in 32 bits the operands' upper halves are not read
pub alike_low : (op : BinOp) (x y m n : ℕ) → m % 2 ^ 32 ≡ x % 2 ^ 32 → n % 2 ^ 32 ≡ y % 2 ^ 32 → word_result W32 op m n ≡ word_result W32 op x y
alike_low op x y m n p q = rw (p, q) refl

-- the low half of a result, by those of the operands
pub told_low : (op : BinOp) (w : Width) (x y m n : ℕ) → is_told op w ≡ true → y < 2 ^ 64 → n < 2 ^ 64 → m % 2 ^ 32 ≡ x % 2 ^ 32 → n % 2 ^ 32 ≡ y % 2 ^ 32 → word_result w op x y % 2 ^ 32 ≡ word_result W64 op m n % 2 ^ 32
told_low Lsh W64 x y m n told h k p q = raised_low x (2 ^ (y % 64)) ∙ sym (raised_low m (2 ^ (n % 64)) ∙ rw (p, shift_same y n q) refl)
told_low op W32 x y m n told h k p q = sym (narrow_low op m n told k ∙ ap (λ r. r % 2 ^ 32) (alike_low op x y m n p q))
told_low op W64 x y m n told h k p q = narrow_low op x y told h ∙ sym (narrow_low op m n told k ∙ ap (λ r. r % 2 ^ 32) (alike_low op x y m n p q))

amount_low : (y : ℕ) → bit_and (word_extended W64 B32 y) 31 % 64 ≡ (y % 2 ^ 32) % 32
amount_low y =
    let mask = and_mask (word_extended W64 B32 y) 5 in
    let low = extended_low y in
    omega arith

lsh_low : (x y : ℕ) → word_result W32 Lsh x y % 2 ^ 32 ≡ word_result W64 Lsh (word_extended W64 B32 x) (bit_and (word_extended W64 B32 y) 31) % 2 ^ 32
lsh_low x y =
    let k = 2 ^ ((y % 2 ^ 32) % 32) in
    let amount : 2 ^ (bit_and (word_extended W64 B32 y) 31 % 64) ≡ k = ap (λ (n : ℕ). 2 ^ n) (amount_low y) in
    let raised = raised_low (word_extended W64 B32 x) k in
    let once : ((x % 2 ^ 32) * k) % 2 ^ 32 ≡ (((x % 2 ^ 32) * k) % 2 ^ 32) % 2 ^ 32 = omega arith in
    sym (rw amount (raised ∙ rw (extended_low x) once))

-- what is moved up by 32 bits or more is told by the low half
moved_high : (p q : ℕ) → p % 4294967296 ≡ q % 4294967296 → (p * 4294967296) % 18446744073709551616 ≡ (q * 4294967296) % 18446744073709551616
moved_high p q e = omega arith

twice_moved : (x k : ℕ) → 32 ≤ k → x * 2 ^ k ≡ (x * 2 ^ (k - 32)) * 4294967296
twice_moved x k h =
    let sum : 2 ^ k ≡ 2 ^ (k - 32) * 4294967296 = ap (λ (n : ℕ). 2 ^ n) (omega arith) ∙ pow-add 2 (k - 32) 32 in
    ap (λ (n : ℕ). x * n) sum ∙ sym (mul_assoc x (2 ^ (k - 32)) 4294967296)

pub amount_reading : (y : ℕ) → y < 2 ^ 64 → pos 32 ≤ℤ cast_signed w64 y → cast_signed w64 y <ℤ pos 64 → (32 ≤ y) × (y < 64)
amount_reading y h least greatest = (grind (arith, ints), grind (arith, ints))

pub raised_same : (x m y : ℕ) → 32 ≤ y → y < 64 → m % 2 ^ 32 ≡ x % 2 ^ 32 → word_result W64 Lsh m y ≡ word_result W64 Lsh x y
raised_same x m y h k e =
    let amount : y % 64 ≡ y = omega arith in
    let j = 2 ^ (y - 32) in
    let low : (m * j) % 4294967296 ≡ (x * j) % 4294967296 = sym (mul-mod_first m j 4294967296) ∙ ap (λ (n : ℕ). (n * j) % 4294967296) e ∙ mul-mod_first x j 4294967296 in
    rw (amount, twice_moved m y h, twice_moved x y h) (moved_high (m * j) (x * j) low)

-- a number that fits 32 bits has one low half in both widths
wide_low : (z : ℤ) → FitsSigned w32 z → cast_unsigned w64 z % 2 ^ 32 ≡ cast_unsigned w32 z % 2 ^ 32
wide_low (pos n) fits = refl
wide_low (negsuc n) fits = let small = fits.sfits in omega arith

arsh_low : (x y : ℕ) → word_result W32 Arsh x y % 2 ^ 32 ≡ word_result W64 Arsh (word_extended W64 B32 x) (bit_and (word_extended W64 B32 y) 31) % 2 ^ 32
arsh_low x y =
    let k = (y % 2 ^ 32) % 32 in
    let small : FitsSigned w32 (low_reading x) = sfits_to_z {w = w32} {n = x % 2 ^ 32} (record { fits = omega arith }) in
    let fits : FitsSigned w32 (int_shr (low_reading x) k) = record { sfits = lt_of_le_of_lt (mag_shr (low_reading x) (2 ^ k)) small.sfits } in
    sym (rw (amount_low y, extended_reading x) (wide_low (int_shr (low_reading x) k) fits))

-- ---- quotients and remainders of low halves, as those of words with their signs in the upper half

-- a number that is not below the least of 32 bits leaves one low half in both widths
wrapped_low : (z : ℤ) → negsuc 2147483647 ≤ℤ z → (cast_unsigned w64 z % 2 ^ 64) % 2 ^ 32 ≡ (cast_unsigned w32 z % 2 ^ 32) % 2 ^ 32
wrapped_low (pos n) h = omega arith
wrapped_low (negsuc n) h = let small : n ≤ 2147483647 = omega (arith, ints) in omega arith

quotient_least : (a b : ℤ) → FitsSigned w32 a → negsuc 2147483647 ≤ℤ int_div a b
quotient_least (pos i) (negsuc j) fits = let small = fits.sfits in let less = div-le_self i (suc j) in omega (arith, ints)
quotient_least (negsuc i) (pos j) fits = let small = fits.sfits in let less = div-le_self (suc i) j in omega (arith, ints)
quotient_least a b fits = omega (arith, ints)

-- a number that reads as 0 is 0
zero_reading : (w : IntWidth) (n : ℕ) → n < 2 ^ bits w → cast_signed w n ≡ pos 0 → n ≡ 0
zero_reading w n h e = sym (of_z-to_z w n h) ∙ ap (cast_unsigned w) e

quotient_both : (p q m n : ℕ) → p < 2 ^ 32 → q < 2 ^ 32 → n < 2 ^ 64 → cast_signed w64 m ≡ cast_signed w32 p → cast_signed w64 n ≡ cast_signed w32 q → signed_quotient w32 p q % 2 ^ 32 ≡ signed_quotient w64 m n % 2 ^ 32
quotient_both p zero m zero h i k e f = refl
quotient_both p zero m (suc n) h i k e f = absurd (omega (arith, zero_reading w64 (suc n) k f))
quotient_both p (suc q) m zero h i k e f = absurd (omega (arith, zero_reading w32 (suc q) i (sym f)))
quotient_both p (suc q) m (suc n) h i k e f =
    sym (rw (e, f) (wrapped_low (int_div (cast_signed w32 p) (cast_signed w32 (suc q))) (quotient_least _ (cast_signed w32 (suc q)) (sfits_to_z {w = w32} {n = p} (record { fits = h })))))

remainder_both : (p q m n : ℕ) → p < 2 ^ 32 → q < 2 ^ 32 → n < 2 ^ 64 → m % 2 ^ 32 ≡ p → cast_signed w64 m ≡ cast_signed w32 p → cast_signed w64 n ≡ cast_signed w32 q → signed_remainder w32 p q % 2 ^ 32 ≡ signed_remainder w64 m n % 2 ^ 32
remainder_both p zero m zero h i k low e f = omega arith
remainder_both p zero m (suc n) h i k low e f = absurd (omega (arith, zero_reading w64 (suc n) k f))
remainder_both p (suc q) m zero h i k low e f = absurd (omega (arith, zero_reading w32 (suc q) i (sym f)))
remainder_both p (suc q) m (suc n) h i k low e f =
    let a = cast_signed w32 p in
    let d = cast_signed w32 (suc q) in
    let small : FitsSigned w32 a = sfits_to_z {w = w32} {n = p} (record { fits = h }) in
    let fits : FitsSigned w32 (int_rem a d) = record { sfits = lt_of_le_of_lt (mag_rem a d) small.sfits } in
    sym (rw (e, f) (wide_low (int_rem a d) fits))

sdiv_low : (x y : ℕ) → word_result W32 Sdiv x y % 2 ^ 32 ≡ word_result W64 Sdiv (word_extended W64 B32 x) (word_extended W64 B32 y) % 2 ^ 32
sdiv_low x y = quotient_both (x % 2 ^ 32) (y % 2 ^ 32) _ _ (omega arith) (omega arith) (word_extended_fits W64 B32 y) (extended_reading x) (extended_reading y)

smod_low : (x y : ℕ) → word_result W32 Smod x y % 2 ^ 32 ≡ word_result W64 Smod (word_extended W64 B32 x) (word_extended W64 B32 y) % 2 ^ 32
smod_low x y = remainder_both (x % 2 ^ 32) (y % 2 ^ 32) _ _ (omega arith) (omega arith) (word_extended_fits W64 B32 y) (extended_low x) (extended_reading x) (extended_reading y)

pub shifted_low : (op : BinOp) → (op ≡ Lsh) ⊎ (op ≡ Arsh) → (x y : ℕ) → word_result W32 op x y % 2 ^ 32 ≡ word_result W64 op (word_extended W64 B32 x) (bit_and (word_extended W64 B32 y) 31) % 2 ^ 32
shifted_low op is x y = elim is [ inl e ↦ rw e (lsh_low x y) | inr e ↦ rw e (arsh_low x y) ]

pub divided_low : (op : BinOp) → (op ≡ Sdiv) ⊎ (op ≡ Smod) → (x y : ℕ) → word_result W32 op x y % 2 ^ 32 ≡ word_result W64 op (word_extended W64 B32 x) (word_extended W64 B32 y) % 2 ^ 32
divided_low op is x y = elim is [ inl e ↦ rw e (sdiv_low x y) | inr e ↦ rw e (smod_low x y) ]

extended_both : (w : Width) (z t : ℤ) → FitsSigned w32 z → z ≡ t → cast_unsigned (int_width w) z % 2 ^ 32 ≡ cast_unsigned w64 t % 2 ^ 32
extended_both W32 z t fits e = sym (rw (← e) (wide_low z fits))
extended_both W64 z t fits e = rw e refl

extended_fits : (n : ExtendBits) (x : ℕ) → FitsSigned w32 (cast_signed (extend_width n) (wrapped (extend_width n) x))
extended_fits B8 x = sfits_widen tt (sfits_to_z {w = w8} {n = x % 2 ^ 8} (record { fits = omega arith }))
extended_fits B16 x = sfits_widen tt (sfits_to_z {w = w16} {n = x % 2 ^ 16} (record { fits = omega arith }))
extended_fits B32 x = sfits_to_z {w = w32} {n = x % 2 ^ 32} (record { fits = omega arith })

same_part : (n : ExtendBits) (x m : ℕ) → m % 2 ^ 32 ≡ x % 2 ^ 32 → wrapped (extend_width n) x ≡ wrapped (extend_width n) m
same_part B8 x m e = omega arith
same_part n x m e = omega arith

pub image_low : (op : UnOp) (w : Width) (x m : ℕ) → IsDeterminedImage op → x < 2 ^ 64 → m < 2 ^ 64 → m % 2 ^ 32 ≡ x % 2 ^ 32 → unary_result op w x % 2 ^ 32 ≡ unary_result op W64 m % 2 ^ 32
image_low Neg W32 x m told h k e = omega arith
image_low Neg W64 x m told h k e = omega arith
image_low (Extend n) w x m told h k e = extended_both w _ _ (extended_fits n x) (ap (cast_signed (extend_width n)) (same_part n x m e))
image_low (Swap kind n) w x m told h k e = absurd told
