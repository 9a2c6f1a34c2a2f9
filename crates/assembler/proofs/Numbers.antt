-- Numbers and their digits.
use Rattle.std.proofs.Common.{◌≡◌, ◌≢◌, ◌⊎◌, inl, ⊎_elim, FitsSigned, w16, w32, w64, neg_ℤ, ◌-ℤ◌, Result, Ok, Err, subst, ℕ, suc, Option, Some, None, IfNone, IfSome, zero, ◌+◌, ◌-◌, ◌*◌, ◌<◌, ◌≤◌, ◌^◌, true, false, nat_le, ℤ, pos, negsuc, List, [], ◌∷◌, length, get_or, drop, codes, refl, sym, ap, ◌∙◌, arith, rules}
use Rattle.assembler.proofs.Names.{drop-cons, bytes_eq, decimal, signed_decimal, list_all, nat_tests, or_cases, and_parts, both_ways, leb-true, cases_lt, ints, to_z-of_z, bytes_eq-Decides, OkIff}
use Rattle.assembler.proofs.Names.{result_ok, Word, is_digit, is_positive, is_natural, distance_word, register_word, IsShortNumber, decimal-ne, other_first, reg_number_small}
use Rattle.assembler.proofs.Names.{signed_decimal-injective, reg_number, RegNo, IsSmall, number_from, decimal_value}
use Rattle.std.proofs.lemmas.Str.Parse.{IsNumeralModel, numerals_by_fold}
use Rattle.std.proofs.lemmas.Fmt.{decimal-digits_value, digits_value-decimal, digits_decimal, decimal_nonempty, first_decimal, decimal_digit, decimal_injective}
use mir.Syntax.{Width}
use mir.Val.{to_z, of_z}

-- more digits make no number smaller
pub at_least : (n : ℕ) (cs : List ℕ) → n ≤ number_from n cs
at_least n [] = omega arith
at_least n (c ∷ cs) = let h = at_least (n * 10 + (c - 48)) cs in omega arith

pub step_at_least : (n i : ℕ) (cs : List ℕ) (d : ℕ) → i < length cs → n * 10 + (get_or cs i d - 48) ≤ number_from n (drop i cs)
step_at_least n i cs d h = rw (drop-cons cs i d) (at_least (n * 10 + (get_or cs i d - 48)) (drop (suc i) cs))

-- a fact holds where there is nothing
pub if_none : {A P : Type 0} (r : Option A) → P → IfNone r P
if_none None p = p
if_none (Some x) p = tt

pub own : IsNumeralModel (λ ds. list_all is_digit ds ≡ true) decimal_value
own = numerals_by_fold _ (search rules) number_from (search rules)

positive_from : (ds : Word) → 48 < get_or ds 0 0 → list_all is_digit ds ≡ true → is_positive ds ≡ true
positive_from [] f h = absurd (omega arith)
positive_from (c ∷ cs) f h = grind (arith, nat_tests)

pub decimal_positive : (n : ℕ) → 0 < n → n < 2 ^ 64 → is_positive (decimal n) ≡ true
decimal_positive n p l = positive_from (decimal n) (first_decimal n p l) (digits_decimal own n l)

pub decimal_natural : (n : ℕ) → n < 2 ^ 64 → is_natural (decimal n) ≡ true
decimal_natural zero l = rw (decimal_digit 0 (omega arith)) refl
decimal_natural (suc n) l = rw (decimal_positive (suc n) (omega arith) l) refl

pub value_decimal : (n : ℕ) → n < 2 ^ 64 → decimal_value (decimal n) ≡ n
value_decimal n l = digits_value-decimal own n l

pub positive_word : (ds : Word) → is_positive ds ≡ true → decimal_value ds < 2 ^ 64 → decimal (decimal_value ds) ≡ ds
positive_word [] h l = absurd (search rules)
positive_word (c ∷ cs) h l = decimal-digits_value own (c ∷ cs) (grind (arith, nat_tests)) (omega arith) (λ e. absurd (grind (arith, nat_tests))) l

-- a word is what `decimal` writes of its value
pub natural_word : (ds : Word) → is_natural ds ≡ true → decimal_value ds < 2 ^ 64 → ds ≡ decimal (decimal_value ds)
natural_word ds h l = ⊎_elim (λ e. sym (positive_word ds e l)) (λ e. let k = (bytes_eq-Decides ds (codes "0")).0 e in rw k (sym (decimal_digit 0 (omega arith)))) (or_cases (is_positive ds) (bytes_eq ds (codes "0")) h)

pub not_decimal : (ds : Word) → is_natural ds ≡ false → (n : ℕ) → n < 2 ^ 64 → ds ≡ decimal n → ⊥
not_decimal ds h n l e = both_ways (is_natural ds) h (ap is_natural e ∙ decimal_natural n l)

pub too_great : (ds : Word) → 2 ^ 64 ≤ decimal_value ds → (n : ℕ) → n < 2 ^ 64 → ds ≡ decimal n → ⊥
too_great ds h n l e = let k : decimal_value ds ≡ n = ap decimal_value e ∙ value_decimal n l in omega arith

-- ---- signed numbers

pub minus_word : (ds : Word) → is_positive ds ≡ true → (n : ℕ) → decimal_value ds ≡ suc n → n < 2 ^ 63 → 45 ∷ ds ≡ signed_decimal (negsuc n)
minus_word ds h n e l = let k : decimal (decimal_value ds) ≡ ds = positive_word ds h (omega arith) in ap (λ (w : Word). 45 ∷ w) (sym k ∙ ap decimal e)

-- a digit stands first
pub plain_first : (n c : ℕ) (ds : Word) → n < 2 ^ 64 → c ∷ ds ≡ decimal n → c < 48 → ⊥
plain_first n c ds l e h = decimal-ne c n ds (inl h) l (sym e)

-- what stands behind a minus
pub behind_minus : (ds : Word) (z : ℤ) → IsSmall z → 45 ∷ ds ≡ signed_decimal z → (n : ℕ) × (z ≡ negsuc n) × (ds ≡ decimal (suc n)) × (n + 1 < 2 ^ 63)
behind_minus ds (negsuc n) l e = (n, refl, cc, l)
behind_minus ds (pos n) l e = absurd (plain_first n 45 ds (omega arith) e (omega arith))

pub positive_value : (ds : Word) → is_positive ds ≡ true → 0 < decimal_value ds
positive_value [] h = absurd (search rules)
positive_value (c ∷ cs) h = let k = at_least (0 * 10 + (c - 48)) cs in let first = leb-true 49 c (and_parts (nat_le 49 c) (list_all is_digit (c ∷ cs)) h).0 in omega arith

-- a negative number's word
pub negative_word : (ds : Word) (n : ℕ) → is_positive ds ≡ true → decimal_value ds ≡ n → n < 2 ^ 63 → (45 ∷ ds ≡ signed_decimal (neg_ℤ (pos n))) × IsSmall (neg_ℤ (pos n))
negative_word ds zero h e l = let k = positive_value ds h in absurd (omega arith)
negative_word ds (suc n) h e l = (minus_word ds h n e (omega arith), omega arith)

pub no_negative : (ds : Word) → (is_positive ds ≡ false) ⊎ (2 ^ 63 ≤ decimal_value ds) → (z : ℤ) → IsSmall z → 45 ∷ ds ≢ signed_decimal z
no_negative ds which z l e =
    let b = behind_minus ds z l e in
    let small = b.3 in
    ⊎_elim
    (λ h. both_ways (is_positive ds) h (ap is_positive b.2 ∙ decimal_positive (suc b.0) (omega arith) (omega arith)))
    (λ h. let k : decimal_value ds ≡ suc b.0 = ap decimal_value b.2 ∙ value_decimal (suc b.0) (omega arith) in omega arith)
    which

pub not_plain : (ds : Word) (m : ℕ) → m < 2 ^ 64 → 2 ^ 63 ≤ m → ds ≡ decimal m → (n : ℕ) → n < 2 ^ 63 → ds ≡ decimal n → ⊥
not_plain ds m l big e n h k = let same : m ≡ n = decimal_injective m n l (omega arith) (sym e ∙ k) in omega arith

pub small_short : (z : ℤ) → IsSmall z → IsShortNumber z
small_short (pos n) h = omega arith
small_short (negsuc n) h = omega arith

pub small_injective : (y z : ℤ) → IsSmall y → IsSmall z → signed_decimal y ≡ signed_decimal z → y ≡ z
small_injective y z l h e = signed_decimal-injective y z (small_short y l) (small_short z h) e

-- such a number is what it was after it went through 64 bits
pub through_64 : (z : ℤ) → IsSmall z → to_z w64 (of_z w64 z) ≡ z
through_64 (pos n) h = let f : FitsSigned w64 (pos n) = omega (arith, ints) in to_z-of_z w64 (pos n) f
through_64 (negsuc n) h = let f : FitsSigned w64 (negsuc n) = omega (arith, ints) in to_z-of_z w64 (negsuc n) f

pub small_from_32 : (z : ℤ) → FitsSigned w32 z → IsSmall z
small_from_32 (pos n) h = omega (arith, ints)
small_from_32 (negsuc n) h = omega (arith, ints)

pub small_from_16 : (z : ℤ) → FitsSigned w16 z → IsSmall z
small_from_16 (pos n) h = omega (arith, ints)
small_from_16 (negsuc n) h = omega (arith, ints)

-- what a conversion to a signed type says
pub converted : {E : Type 0} (r : Result ℤ E) (w : Width) (y z : ℤ) → OkIff r (FitsSigned w y) y → result_ok r ≡ Some z → (z ≡ y) × FitsSigned w y
converted (Ok x) w y z h e = let k : x ≡ z = cc in (sym k ∙ h.1, h.0)
converted (Err x) w y z h e = absurd cc

pub not_converted : {E : Type 0} (r : Result ℤ E) (w : Width) (y : ℤ) → OkIff r (FitsSigned w y) y → result_ok r ≡ None → FitsSigned w y → ⊥
not_converted (Ok x) w y h e = absurd cc
not_converted (Err x) w y h e = h

pub not_below : (n : ℕ) → (FitsSigned w64 (pos n) → ⊥) → 2 ^ 63 ≤ n
not_below n h = ⊎_elim (λ l. absurd (h (omega (arith, ints)))) (λ l. l) (cases_lt n (2 ^ 63))

pub negated : (s : ℤ) (n : ℕ) → s ≡ pos n → FitsSigned w64 (pos n) → to_z w64 (of_z w64 (pos 0 -ℤ to_z w64 (of_z w64 s))) ≡ neg_ℤ (pos n)
negated s n e l =
    let f : FitsSigned w64 s = subst (λ (x : ℤ). FitsSigned w64 x) (sym e) l in
    let k : to_z w64 (of_z w64 s) ≡ s = to_z-of_z w64 s f in
    let v : pos 0 -ℤ to_z w64 (of_z w64 s) ≡ neg_ℤ (pos n) = omega (arith, ints) in
    let g : FitsSigned w64 (neg_ℤ (pos n)) = omega (arith, ints) in
    ap (λ (x : ℤ). to_z w64 (of_z w64 x)) v ∙ to_z-of_z w64 (neg_ℤ (pos n)) g

pub below : (n : ℕ) → FitsSigned w64 (pos n) → n < 2 ^ 63
below n h = omega (arith, ints)

-- what holds where there is nothing
pub none_given : {A P : Type 0} (r : Option A) → (r ≡ None → P) → IfNone r P
none_given None f = f refl
none_given (Some x) f = tt

-- the number of a word is the only one
pub other : {E : Type 0} (w : Width) → ((z : ℤ) → FitsSigned w z → IsSmall z) → (r : Result ℤ E) (o : Option ℤ) (word : Word) (x y : ℤ) → x ≡ y → (word ≡ signed_decimal y) × IsSmall y → OkIff r (FitsSigned w x) x → o ≡ result_ok r
    → IfNone o ((z : ℤ) → FitsSigned w z → word ≢ signed_decimal z)
other w small r o word x y xy e h is = none_given o (λ none z f k.
    let same : y ≡ z = small_injective y z e.1 (small z f) (sym e.0 ∙ k) in
    not_converted r w x h (sym is ∙ none) (subst (λ (t : ℤ). FitsSigned w t) (sym (xy ∙ same)) f))

pub nothing_signed : (word : Word) → length word ≡ 0 → (z : ℤ) → IsSmall z → word ≢ signed_decimal z
nothing_signed word e (pos n) s h = let l = decimal_nonempty n (omega arith) in let j : length word ≡ length (decimal n) = ap length h in omega arith
nothing_signed word e (negsuc n) s h = let j : length word ≡ length (45 ∷ decimal (suc n)) = ap length h in absurd (omega arith)

-- ---- distances and registers

pub plus_other : {E : Type 0} (r : Result ℤ E) (word digits : Word) (n : ℕ) → word ≡ 43 ∷ digits → n < 2 ^ 64 → digits ≡ decimal n → OkIff r (FitsSigned w32 (pos n)) (pos n) → result_ok r ≡ None → (z : ℤ) → FitsSigned w32 z → word ≢ distance_word z
plus_other r word digits n w l e h none (pos m) f k =
    let tail : digits ≡ decimal m = ap (λ (x : Word). drop 1 x) (sym w ∙ k) in
    let small : m < 2 ^ 64 = omega (arith, ints) in
    let same : n ≡ m = decimal_injective n m l small (sym e ∙ tail) in
    not_converted r w32 (pos n) h none (subst (λ (x : ℕ). FitsSigned w32 (pos x)) (sym same) f)
plus_other r word digits n w l e h none (negsuc m) f k = absurd (other_first 43 45 digits (decimal (suc m)) (inl (omega arith)) (sym w ∙ k))

pub no_register : (word digits : Word) (n : ℕ) → word ≡ 114 ∷ digits → n < 2 ^ 64 → digits ≡ decimal n → 10 < n → (r : RegNo) → word ≢ register_word r
no_register word digits n w l e far r k =
    let small : reg_number r ≤ 10 = reg_number_small r in
    let tail : digits ≡ decimal (reg_number r) = ap (λ (x : Word). drop 1 x) (sym w ∙ k) in
    let same : n ≡ reg_number r = decimal_injective n (reg_number r) l (omega arith) (sym e ∙ tail) in omega arith

pub minus_distances : (r : Option ℤ) (word digits : Word) → word ≡ 45 ∷ digits → IfSome r (λ z. (word ≡ signed_decimal z) × IsSmall z) → IfSome r (λ z. word ≡ distance_word z)
minus_distances None word digits w h = h
minus_distances (Some (pos n)) word digits w h = let small = h.1 in absurd (plain_first n 45 digits (omega arith) (sym w ∙ h.0) (omega arith))
minus_distances (Some (negsuc n)) word digits w h = h.0
