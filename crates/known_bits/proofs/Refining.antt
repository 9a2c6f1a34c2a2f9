-- What is known of words for which a condition has an answer.
use Rattle.std.proofs.Common.{◌≡◌, ℕ, ◌+◌, ◌-◌, ◌*◌, ◌/◌, ◌%◌, ◌^◌, ◌<◌, ◌⊎◌, ◌↔◌, refl, sym, ap, ◌∙◌, inl, inr, Bool, true, arith, w64}
use Rattle.std.specs.Prelude.{nat_lt}
use Rattle.known_bits.proofs.Names.{cases_lt, cases_eq, nat_tests, zero-mul, and_le_r, and_mod, pow_pos, mod_below, mod_low, shr-shr, and_pow, bit_at-pow_same, bit_at-trailing_zeros, bit_at_above, bit_at_or}
use Rattle.known_bits.proofs.Names.{bit_at-pow_other, bit_at_mask_below, bit_at_mask_inside, bit_at_cat_low, bit_at_cat_high, bit_at, bit_not, trailing_zeros, bit_and, Width, W32, W64, seen, word_holds}
use Rattle.known_bits.proofs.Names.{KnownBits, Agrees, HasBits, IsWanted}
use Rattle.std.specs.Int.RustNames.{bit_or}
use Rattle.insn.specs.declared.operation.Cond.{Cond}
use Rattle.insn.specs.declared.operation.Cond.TheVariants.{Set}
use Rattle.known_bits.specs.Refined.{HasPartner}
use Rattle.known_bits.proofs.Agreeing.{admitted, apart_bits, apart_from, agrees_below, bit_at_mod, bit_cases, set_below}
use Rattle.known_bits.proofs.Results.{cut_has}

-- ---- words that a width sees alike

-- the bits of the upper half
abbrev upper : ℕ
upper = 2 ^ 64 - 2 ^ 32

pub alike_apart : (b : KnownBits) → b.value < 2 ^ 32 → bit_and b.value (bit_or b.mask upper) ≡ 0
alike_apart b low = apart_from b.value (bit_or b.mask upper) (λ k. elim (cases_lt k 32) [
  | inl below ↦ omega (arith, bit_at_or b.mask upper k, bit_at_mask_below 32 64 k below, apart_bits b k)
  | inr above ↦ omega (arith, bit_at_above b.value 32 k low above)
])

pub alike_has : (v m x y : ℕ) → v < 2 ^ 32 → y < 2 ^ 64 → Agrees v m (x % 2 ^ 32) → x % 2 ^ 32 ≡ y % 2 ^ 32 → Agrees v (bit_or m upper) y
alike_has v m x y low word h same = agrees_below v (bit_or m upper) y word (omega arith) (λ k within clear. elim (cases_lt k 32) [
  | inl below ↦
      let known : bit_at m k ≡ 0 = omega (arith, bit_at_or m upper k) in
      sym (bit_at_mod y 32 k below) ∙ ap (λ n. bit_at n k) (sym same) ∙ h.same k known
  | inr above ↦ absurd (omega (arith, bit_at_or m upper k, bit_at_mask_inside 32 64 k above within))
])

-- the word with the low half of another
abbrev with_low : ℕ → ℕ → ℕ
with_low v y = v / 2 ^ 32 * 2 ^ 32 + y % 2 ^ 32

pub alike_partner : (b low : KnownBits) (y : ℕ) → low.value ≡ b.value % 2 ^ 32 → low.mask ≡ b.mask % 2 ^ 32 → Agrees low.value (bit_or low.mask upper) y → HasPartner W32 b y
alike_partner b low y value mask h = record {
  partner = with_low b.value y;
  there = record {
    word = let fits = b.fits in omega arith;
    same = λ k clear. elim (cases_lt k 32) [
      | inl below ↦
          let masked : bit_at low.mask k ≡ 0 = ap (λ n. bit_at n k) mask ∙ bit_at_mod b.mask 32 k below ∙ clear in
          let open_low : bit_at (bit_or low.mask upper) k ≡ 0 = omega (arith, bit_at_or low.mask upper k, bit_at_mask_below 32 64 k below) in
          bit_at_cat_low (b.value / 2 ^ 32) 32 (y % 2 ^ 32) k below ∙ bit_at_mod y 32 k below ∙ h.same k open_low
          ∙ ap (λ n. bit_at n k) value ∙ bit_at_mod b.value 32 k below
      | inr above ↦
          let place : 32 + (k - 32) ≡ k = omega arith in
          bit_at_cat_high (b.value / 2 ^ 32) 32 (y % 2 ^ 32) k (mod_below y (2 ^ 32) (pow_pos 32)) above
          ∙ ap (λ n. n % 2) (shr-shr b.value 32 (k - 32)) ∙ ap (bit_at b.value) place
    ];
  };
  alike = mod_low (b.value / 2 ^ 32) 32 (y % 2 ^ 32) (mod_below y (2 ^ 32) (pow_pos 32));
}

-- ---- conditions of single words

seen_twice : (w : Width) (x : ℕ) → seen w (seen w x) ≡ seen w x
seen_twice W32 x = omega arith
seen_twice W64 x = refl

-- a condition sees only what the width sees
pub holds_of_seen : (w : Width) (cond : Cond) (x y : ℕ) → word_holds w cond (seen w x) (seen w y) ≡ word_holds w cond x y
holds_of_seen w cond x y = rw (seen_twice w x, seen_twice w y) refl

pub seen_zero : (w : Width) → seen w 0 ≡ 0
seen_zero W32 = refl
seen_zero W64 = refl

-- ---- tests of bits in common

-- a number has all of a power of two, or nothing
all_or_none : (n k x : ℕ) → n ≡ 2 ^ k → (bit_and x n ≡ 0) ⊎ (bit_and x n ≡ n)
all_or_none n k x is = elim (bit_cases x k) [
  | inl clear ↦ inl (bit ∙ ap (λ b. b * 2 ^ k) clear ∙ zero-mul (2 ^ k))
  | inr set ↦ inr (bit ∙ ap (λ b. b * 2 ^ k) set ∙ omega arith)
]
  where
    bit : bit_and x n ≡ bit_at x k * 2 ^ k
    bit = ap (bit_and x) is ∙ and_pow x k

pub power_says : (n k x : ℕ) → n ≡ 2 ^ k → (nat_lt 0 (bit_and x n) ≡ true) ↔ (bit_and x n ≡ n)
power_says n k x is = let either = all_or_none n k x is in let some = pow_pos k in (λ e. grind (arith, nat_tests, either), λ e. grind (arith, nat_tests, some))

-- what a width sees of a number has the bits of one that it sees whole
and_seen : (w : Width) (x t : ℕ) → seen w t ≡ t → bit_and x t ≡ bit_and (seen w x) t
and_seen W32 x t own = let below = and_le_r x t in sym (ap (bit_and (x % 2 ^ 32)) (sym own) ∙ sym (and_mod x t 32) ∙ omega arith)
and_seen W64 x t own = refl

-- the words that have the bits that are wanted are those for which the test has its answer
pub tested_has : (w : Width) (b t r : KnownBits) (taken : Bool) (n x y : ℕ) → t.value ≡ seen w b.value → t.mask ≡ seen w b.mask → IsWanted t taken n → r.value ≡ n → r.mask ≡ bit_not w64 t.value
    → x < 2 ^ 64 → HasBits b y → (word_holds w Set x y ≡ taken) ↔ HasBits r x
tested_has w b t r taken n x y value mask wanted is_value is_mask word hy = (
  λ e. (admitted r x word).0 (cut ∙ (wanted.says (seen w x)).0 (sym test ∙ e) ∙ sym is_value),
  λ h. test ∙ (wanted.says (seen w x)).1 (sym cut ∙ (admitted r x word).1 h ∙ is_value),
)
  where
    test : word_holds w Set x y ≡ nat_lt 0 (bit_and (seen w x) t.value)
    test = ap (λ m. nat_lt 0 (bit_and (seen w x) m)) (wanted.only (seen w y) (cut_has w b t y value mask hy))

    cut : bit_and x (bit_not w64 r.mask) ≡ bit_and (seen w x) t.value
    cut = let fits = t.fits in ap (bit_and x) (ap (bit_not w64) is_mask ∙ omega arith) ∙ and_seen w x t.value (ap (seen w) value ∙ seen_twice w b.value ∙ sym value)

bit_of_power : (j k : ℕ) → bit_at (2 ^ j) k ≡ 1 → k ≡ j
bit_of_power j k set = elim (cases_eq k j) [
  | inl same ↦ same
  | inr other ↦ absurd (omega (arith, set, bit_at-pow_other j k other))
]

-- the trailing zeros of a power of two are its exponent
pub trailing_of_power : (n k : ℕ) → n < 2 ^ 64 → n ≡ 2 ^ k → (k < 64) × (trailing_zeros w64 n ≡ k)
trailing_of_power n k fits power =
    let set : bit_at n k ≡ 1 = ap (λ m. bit_at m k) power ∙ bit_at-pow_same k in
    let lowest = bit_at-trailing_zeros w64 n (omega (arith, power, pow_pos k)) fits in
    (set_below n k fits set, bit_of_power k (trailing_zeros w64 n) (ap (λ m. bit_at m (trailing_zeros w64 n)) (sym power) ∙ lowest.1))
