-- Words that have the bits of a value outside a mask.
use Rattle.std.proofs.Common.{◌≡◌, ℕ, ◌+◌, ◌-◌, ◌%◌, ◌^◌, ◌<◌, ◌≤◌, ◌↔◌, ◌⊎◌, min, max, refl, sym, ap, ◌∙◌, inl, inr, arith, w64, ◌/◌}
use Rattle.known_bits.proofs.Names.{cases_lt, and_le_r, or_lt, pow_pos, pow_below, and_mask, mod_below, bit_at-lt, bit_at_and, bit_at_or, bit_at_xor, bit_at_not, bit_at-zero, bit_at_above}
use Rattle.known_bits.proofs.Names.{bit_at_ones, bit_at-pow_other, same_from_bits, bit_at, bit_not, bit_and, bit_xor, IsSingle, KnownBits, Agrees, HasBits, xor_shr, div_below, xor_lt}
use Rattle.known_bits.proofs.Names.{bit_at-pow_same, IsJoin}
use Rattle.std.specs.Int.RustNames.{bit_or}
use Rattle.std.proofs.Math.Pow.{pow_mono, shr_mono}
use Rattle.range.specs.Widths.{IsFilled}

-- ---- bits of numbers

-- numbers with no bit in common are apart
pub apart_from : (v m : ℕ) → ((k : ℕ) → min (bit_at v k) (bit_at m k) ≡ 0) → bit_and v m ≡ 0
apart_from v m each = same_from_bits _ _ (λ k. bit_at_and v m k ∙ each k ∙ sym (bit_at-zero k))

-- the low bits of a number
pub bit_at_mod : (n j k : ℕ) → k < j → bit_at (n % 2 ^ j) k ≡ bit_at n k
bit_at_mod n j k low =
    let cut : bit_at (bit_and n (2 ^ j - 1)) k ≡ bit_at (n % 2 ^ j) k = ap (λ x. bit_at x k) (and_mask n j) in
    omega (arith, cut, bit_at_and n (2 ^ j - 1) k, bit_at_ones j k low, bit_at-lt n k)

pub bit_at_mod_above : (n j k : ℕ) → j ≤ k → bit_at (n % 2 ^ j) k ≡ 0
bit_at_mod_above n j k high = bit_at_above (n % 2 ^ j) j k (mod_below n (2 ^ j) (pow_pos j)) high

-- a bit that is set in a word is one of its 64
pub set_below : (m k : ℕ) → m < 2 ^ 64 → bit_at m k ≡ 1 → k < 64
set_below m k fits set = elim (cases_lt k 64) [
  | inl low ↦ low
  | inr high ↦ let clear = bit_at_above m 64 k fits high in absurd (omega arith)
]

-- a number whose bits are all in another is no greater
pub subset_le : (a b : ℕ) → bit_and a b ≡ a → a ≤ b
subset_le a b e = let below = and_le_r a b in omega arith

pub bit_cases : (n k : ℕ) → (bit_at n k ≡ 0) ⊎ (bit_at n k ≡ 1)
bit_cases n k = elim (cases_lt (bit_at n k) 1) [
  | inl low ↦ inl (omega arith)
  | inr high ↦ inr (omega (arith, bit_at-lt n k))
]

pub and_not_at : (n m k : ℕ) → n < 2 ^ 64 → m < 2 ^ 64 → bit_at (bit_and n (bit_not w64 m)) k ≡ min (bit_at n k) (1 - bit_at m k)
and_not_at n m k fits mask_fits = elim (cases_lt k 64) [
  | inl low ↦ omega (arith, bit_at_and n (bit_not w64 m) k, bit_at_not w64 m k mask_fits low)
  | inr high ↦ omega (arith, bit_at_and n (bit_not w64 m) k, bit_at_above n 64 k fits high)
]

-- bits that are unknown in two numbers, or unlike in two others
pub unlike_at : (m n p q k : ℕ) → bit_at (bit_or (bit_or m n) (bit_xor p q)) k ≡ max (max (bit_at m k) (bit_at n k)) ((bit_at p k + bit_at q k) % 2)
unlike_at m n p q k = simp (bit_at_or, bit_at_xor) refl

-- ---- bits of a value and of its members

-- a value has no unknown bit
pub apart_bits : (b : KnownBits) (k : ℕ) → min (bit_at b.value k) (bit_at b.mask k) ≡ 0
apart_bits b k = sym (bit_at_and b.value b.mask k) ∙ ap (λ x. bit_at x k) b.apart ∙ bit_at-zero k

pub apart_at : (b : KnownBits) (k : ℕ) → bit_at b.mask k ≡ 1 → bit_at b.value k ≡ 0
apart_at b k set = omega (arith, apart_bits b k, bit_at-lt b.value k)

-- the bits of a member, with the mask's
pub agrees_at : (b : KnownBits) (x k : ℕ) → HasBits b x → max (bit_at x k) (bit_at b.mask k) ≡ max (bit_at b.value k) (bit_at b.mask k)
agrees_at b x k h = elim (bit_cases b.mask k) [
  | inl clear ↦ ap (λ n. max n (bit_at b.mask k)) (h.same k clear)
  | inr set ↦ omega (arith, bit_at-lt x k, bit_at-lt b.value k)
]

pub agrees_by : (b : KnownBits) (x : ℕ) → x < 2 ^ 64 → ((k : ℕ) → max (bit_at x k) (bit_at b.mask k) ≡ max (bit_at b.value k) (bit_at b.mask k)) → HasBits b x
agrees_by b x word each = record { word = word; same = λ k clear. omega (arith, each k) }

-- a member has each bit of the value, and none but these and the unknown ones
pub bits_between : (b : KnownBits) (x k : ℕ) → HasBits b x → (bit_at b.value k ≤ bit_at x k) × (bit_at x k ≤ bit_at (bit_or b.value b.mask) k)
bits_between b x k h =
    let here = agrees_at b x k h in
    let apart = apart_bits b k in
    (omega (arith, bit_at-lt b.value k), omega (arith, bit_at_or b.value b.mask k))

pub least_in : (b : KnownBits) (x : ℕ) → HasBits b x → bit_and b.value x ≡ b.value
least_in b x h = same_from_bits _ _ (λ k. let between = (bits_between b x k h).0 in omega (arith, bit_at_and b.value x k))

pub in_greatest : (b : KnownBits) (x : ℕ) → HasBits b x → bit_and x (bit_or b.value b.mask) ≡ x
in_greatest b x h = same_from_bits _ _ (λ k. let between = (bits_between b x k h).1 in omega (arith, bit_at_and x (bit_or b.value b.mask) k))

-- only the bits of a word count
pub agrees_below : (v m x : ℕ) → x < 2 ^ 64 → v < 2 ^ 64 → ((k : ℕ) → k < 64 → bit_at m k ≡ 0 → bit_at x k ≡ bit_at v k) → Agrees v m x
agrees_below v m x word fits each = record {
  word = word;
  same = λ k clear. elim (cases_lt k 64) [
    | inl low ↦ each k low clear
    | inr high ↦ bit_at_above x 64 k word high ∙ sym (bit_at_above v 64 k fits high)
  ];
}

pub agrees_self : (b : KnownBits) → HasBits b b.value
agrees_self b = record { word = b.fits; same = λ k clear. refl }

-- the greatest member has all unknown bits
pub agrees_greatest : (b : KnownBits) → HasBits b (bit_or b.value b.mask)
agrees_greatest b = record { word = or_lt 64 b.value b.mask b.fits b.mask_fits; same = λ k clear. omega (arith, bit_at_or b.value b.mask k, bit_at-lt b.value k) }

-- one unknown bit alone can be 1
pub agrees_with_one : (b : KnownBits) (k : ℕ) → bit_at b.mask k ≡ 1 → HasBits b (bit_or b.value (2 ^ k))
agrees_with_one b k set = record {
  word = or_lt 64 b.value (2 ^ k) b.fits (pow_below k 64 (set_below b.mask k b.mask_fits set));
  same = λ i clear. omega (arith, bit_at_or b.value (2 ^ k) i, bit_at-lt b.value i, bit_at-pow_other k i (λ e. absurd (omega (arith, clear, set, ap (bit_at b.mask) e))));
}

-- ---- single words

pub agrees_only : (v x : ℕ) → Agrees v 0 x → x ≡ v
agrees_only v x h = same_from_bits _ _ (λ k. h.same k (bit_at-zero k))

pub member_of_single : (b : KnownBits) (x : ℕ) → b.mask ≡ 0 → HasBits b x → x ≡ b.value
member_of_single b x clear h = agrees_only b.value x (rw clear at h)

pub single_value : (b : KnownBits) (x : ℕ) → IsSingle HasBits b x → b.value ≡ x
single_value b x only = (only b.value).0 (agrees_self b)

-- where there is one member, nothing is unknown
pub no_mask : (b : KnownBits) (x : ℕ) → IsSingle HasBits b x → b.mask ≡ 0
no_mask b x only =
    let same : bit_or b.value b.mask ≡ b.value = (only (bit_or b.value b.mask)).0 (agrees_greatest b) ∙ sym (single_value b x only) in
    same_from_bits _ _ (λ k.
    let both : bit_at (bit_or b.value b.mask) k ≡ bit_at b.value k = ap (λ y. bit_at y k) same in
    omega (arith, both, apart_bits b k, bit_at_or b.value b.mask k, bit_at-zero k, bit_at-lt b.value k, bit_at-lt b.mask k))

-- the test of a member
pub admitted : (b : KnownBits) (n : ℕ) → n < 2 ^ 64 → (bit_and n (bit_not w64 b.mask) ≡ b.value) ↔ HasBits b n
admitted b n word = (
  λ e. record {
    word = word;
    same = λ k clear.
        let cut : bit_at (bit_and n (bit_not w64 b.mask)) k ≡ bit_at b.value k = ap (λ y. bit_at y k) e in
        omega (arith, cut, and_not_at n b.mask k word b.mask_fits, bit_at-lt n k);
  },
  λ h. same_from_bits _ _ (λ k.
      omega (arith, agrees_at b n k h, apart_bits b k, and_not_at n b.mask k word b.mask_fits, bit_at-lt n k, bit_at-lt b.value k, bit_at-lt b.mask k)),
)

-- ==== the bits that words between two words share

same_if_xor_zero : (a b : ℕ) → bit_xor a b ≡ 0 → a ≡ b
same_if_xor_zero a b e = same_from_bits a b (λ k.
    let clear : bit_at (bit_xor a b) k ≡ bit_at 0 k = ap (λ y. bit_at y k) e in
    omega (arith, clear, bit_at_xor a b k, bit_at-zero k, bit_at-lt a k, bit_at-lt b k))

-- numbers that differ in low bits alone are the same above these
same_above : (a b n k : ℕ) → bit_xor a b < 2 ^ n → n ≤ k → a / 2 ^ k ≡ b / 2 ^ k
same_above a b n k small le =
    let wide : 2 ^ n ≤ 2 ^ k = pow_mono {i = n} {j = k} le in
    let none : bit_xor a b / 2 ^ k < 1 = div_below (bit_xor a b) (2 ^ k) 1 (pow_pos k) (omega arith) in
    same_if_xor_zero (a / 2 ^ k) (b / 2 ^ k) (sym (xor_shr a b k) ∙ omega arith)

-- so is what lies between them
between_above : (l g x n k : ℕ) → bit_xor l g < 2 ^ n → n ≤ k → l ≤ x → x ≤ g → x / 2 ^ k ≡ l / 2 ^ k
between_above l g x n k small le above below =
    let same = same_above l g n k small le in
    let low : l / 2 ^ k ≤ x / 2 ^ k = shr_mono k above in
    let high : x / 2 ^ k ≤ g / 2 ^ k = shr_mono k below in
    omega arith

-- a bit that is clear in a filled number is above it
clear_above : (n m k : ℕ) (f : IsFilled n m) → bit_at m k ≡ 0 → f.count ≤ k
clear_above n m k f clear = elim (cases_lt k f.count) [
  | inl low ↦
      let mask : m ≡ 2 ^ f.count - 1 = omega arith in
      let set : bit_at m k ≡ 1 = ap (λ y. bit_at y k) mask ∙ bit_at_ones f.count k low in
      absurd (omega arith)
  | inr high ↦ high
]

-- words between two words have the bits above the highest in which these differ
pub shared_between : (l g m x k : ℕ) → IsFilled (bit_xor l g) m → l ≤ x → x ≤ g → bit_at m k ≡ 0 → bit_at x k ≡ bit_at l k
shared_between l g m x k f above below clear =
    let same : x / 2 ^ k ≡ l / 2 ^ k = between_above l g x f.count k (omega arith) (clear_above _ m k f clear) above below in
    ap (λ n. n % 2) same

-- ==== words of two sets at once, and of either

-- ---- words of both

-- where both know a bit, and it differs
abbrev conflicts : KnownBits → KnownBits → ℕ
conflicts a b = bit_and (bit_xor a.value b.value) (bit_not w64 (bit_or a.mask b.mask))

conflicts_at : (a b : KnownBits) (k : ℕ) → bit_at (conflicts a b) k ≡ min ((bit_at a.value k + bit_at b.value k) % 2) (1 - max (bit_at a.mask k) (bit_at b.mask k))
conflicts_at a b k =
    let cut = and_not_at (bit_xor a.value b.value) (bit_or a.mask b.mask) k (xor_lt 64 a.value b.value a.fits b.fits) (or_lt 64 a.mask b.mask a.mask_fits b.mask_fits) in
    simp (cut, bit_at_xor, bit_at_or) refl

pub no_member_of_both : (a b : KnownBits) (x : ℕ) → HasBits a x → HasBits b x → conflicts a b ≡ 0
no_member_of_both a b x ha hb = same_from_bits _ _ (λ k.
    omega (arith, conflicts_at a b k, bit_at-zero k, agrees_at a x k ha, agrees_at b x k hb, bit_at-lt a.value k, bit_at-lt b.value k, bit_at-lt a.mask k, bit_at-lt b.mask k))

pub meet_apart : (a b : KnownBits) → bit_and (bit_or a.value b.value) (bit_and a.mask b.mask) ≡ 0
meet_apart a b = apart_from (bit_or a.value b.value) (bit_and a.mask b.mask) (λ k.
    omega (arith, bit_at_or a.value b.value k, bit_at_and a.mask b.mask k, apart_bits a k, apart_bits b k, bit_at-lt a.value k, bit_at-lt b.value k, bit_at-lt a.mask k, bit_at-lt b.mask k))

pub meet_has : (a b c : KnownBits) (x : ℕ) → conflicts a b ≡ 0 → c.value ≡ bit_or a.value b.value → c.mask ≡ bit_and a.mask b.mask → HasBits c x ↔ (HasBits a x × HasBits b x)
meet_has a b c x none value mask = (
  λ h. (
    agrees_by a x h.word (λ k. omega (arith, agrees_at c x k h, at k, same k, apart_bits a k, apart_bits b k, bit_at-lt x k, bit_at-lt a.value k, bit_at-lt b.value k, bit_at-lt a.mask k, bit_at-lt b.mask k)),
    agrees_by b x h.word (λ k. omega (arith, agrees_at c x k h, at k, same k, apart_bits a k, apart_bits b k, bit_at-lt x k, bit_at-lt a.value k, bit_at-lt b.value k, bit_at-lt a.mask k, bit_at-lt b.mask k)),
  ),
  λ h. agrees_by c x h.0.word (λ k. omega (arith, agrees_at a x k h.0, agrees_at b x k h.1, at k, apart_bits a k, apart_bits b k, bit_at-lt a.mask k, bit_at-lt b.mask k, bit_at-lt a.value k, bit_at-lt b.value k)),
)
  where
    at : (k : ℕ) → (bit_at c.value k ≡ max (bit_at a.value k) (bit_at b.value k)) × (bit_at c.mask k ≡ min (bit_at a.mask k) (bit_at b.mask k))
    at k = (ap (λ n. bit_at n k) value ∙ bit_at_or a.value b.value k, ap (λ n. bit_at n k) mask ∙ bit_at_and a.mask b.mask k)

    -- a bit that both know is the same
    same : (k : ℕ) → min ((bit_at a.value k + bit_at b.value k) % 2) (1 - max (bit_at a.mask k) (bit_at b.mask k)) ≡ 0
    same k = sym (conflicts_at a b k) ∙ ap (λ n. bit_at n k) none ∙ bit_at-zero k

-- ---- words of one among those of another

-- bits that are all known, and the same, are those of more words
pub covered_has : (a b : KnownBits) (x : ℕ) → bit_and b.mask (bit_not w64 a.mask) ≡ 0 → bit_and b.value (bit_not w64 a.mask) ≡ a.value → HasBits b x → HasBits a x
covered_has a b x none kept h = record {
  word = h.word;
  same = λ k clear.
      let inner : bit_at (bit_and b.mask (bit_not w64 a.mask)) k ≡ bit_at 0 k = ap (λ y. bit_at y k) none in
      let known : bit_at b.mask k ≡ 0 = omega (arith, inner, and_not_at b.mask a.mask k b.mask_fits a.mask_fits, bit_at-zero k, bit_at-lt b.mask k) in
      h.same k known ∙ ((admitted a b.value b.fits).0 kept).same k clear;
}

pub own_mask : (m : ℕ) → m < 2 ^ 64 → bit_and m (bit_not w64 m) ≡ 0
own_mask m fits = same_from_bits _ _ (λ k. omega (arith, and_not_at m m k fits fits, bit_at-zero k, bit_at-lt m k))

-- ---- words of either

module _ (a b c : KnownBits) (mask : c.mask ≡ bit_or (bit_or a.mask b.mask) (bit_xor a.value b.value)) (value : (k : ℕ) → bit_at c.mask k ≡ 0 → bit_at c.value k ≡ bit_at a.value k) where
  joined_at : (k : ℕ) → bit_at c.mask k ≡ max (max (bit_at a.mask k) (bit_at b.mask k)) ((bit_at a.value k + bit_at b.value k) % 2)
  joined_at k = ap (λ m. bit_at m k) mask ∙ unlike_at a.mask b.mask a.value b.value k

  pub joined_has : IsJoin HasBits a b c
  joined_has = record {
    left = λ x h. record {
      word = h.word;
      same = λ k clear. h.same k (omega (arith, joined_at k)) ∙ sym (value k clear);
    };
    right = λ x h. record {
      word = h.word;
      same = λ k clear.
          let known : bit_at b.mask k ≡ 0 = omega (arith, joined_at k) in
          omega (arith, h.same k known, value k clear, joined_at k, bit_at-lt a.value k, bit_at-lt b.value k);
    };
  }

  pub joined_least : (d : KnownBits) → IsJoin HasBits a b d → (x : ℕ) → HasBits c x → HasBits d x
  joined_least d join x h = record {
    word = h.word;
    same = λ k clear.
        let left = knows_then_known a d k join.left clear in
        let right = knows_then_known b d k join.right clear in
        let known : bit_at c.mask k ≡ 0 = omega (arith, left.1, right.1, joined_at k) in
        h.same k known ∙ value k known ∙ left.1;
  }
    where
      -- what knows a bit of all members of a set has it from the set
      knows_then_known : (s d : KnownBits) (k : ℕ) → ((x : ℕ) → HasBits s x → HasBits d x) → bit_at d.mask k ≡ 0 → (bit_at s.mask k ≡ 0) × (bit_at s.value k ≡ bit_at d.value k)
      knows_then_known s d k within clear =
          let least : bit_at s.value k ≡ bit_at d.value k = (within s.value (agrees_self s)).same k clear in
          elim (bit_cases s.mask k) [
            | inl known ↦ (known, least)
            | inr unknown ↦
                let flipped = (within (bit_or s.value (2 ^ k)) (agrees_with_one s k unknown)).same k clear in
                absurd (omega (arith, least, flipped, apart_at s k unknown, bit_at_or s.value (2 ^ k) k, bit_at-pow_same k))
          ]
