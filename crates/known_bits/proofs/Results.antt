-- Results in a width, and results of single words.
use Rattle.std.proofs.Common.{◌≡◌, ℕ, ◌^◌, ◌<◌, ◌⊎◌, refl, sym, ap, ◌∙◌, inl, inr, true, arith}
use Rattle.known_bits.proofs.Names.{cases_lt, le_or_l, le_or_r, bit_at-zero, bit_at, Width, W32, W64, BinOp, Sub, Div, Mod, Neg, seen, negated_is, narrow_low, is_told}
use Rattle.known_bits.proofs.Names.{word_result, word_result_fits, IsSingle, seen_same, KnownBits, HasBits, Gives, IsExact, GivesImage, IsExactImage}
use Rattle.std.specs.Int.RustNames.{bit_or}
use Rattle.known_bits.proofs.Agreeing.{bit_at_mod, bit_at_mod_above, member_of_single, no_mask}
use Rattle.known_bits.proofs.Witnesses.{gives}
use Rattle.known_bits.proofs.Moving.{moved_agrees, seen_moves}

-- ---- results cut to a width

pub cut_has : (w : Width) (s c : KnownBits) (x : ℕ) → c.value ≡ seen w s.value → c.mask ≡ seen w s.mask → HasBits s x → HasBits c (seen w x)
cut_has w s c x value mask h = rw (value, mask) (moved_agrees (seen w) s x (seen_moves w) h)

-- a bit that a width sees
pub seen_set : (w : Width) (m k : ℕ) → bit_at (seen w m) k ≡ 1 → (bit_at m k ≡ 1) × ((n : ℕ) → bit_at (seen w n) k ≡ bit_at n k)
seen_set W32 m k set = elim (cases_lt k 32) [
  | inl low ↦ (sym (bit_at_mod m 32 k low) ∙ set, λ n. bit_at_mod n 32 k low)
  | inr high ↦ let none = bit_at_mod_above m 32 k high in absurd (omega arith)
]
seen_set W64 m k set = (set, λ n. refl)

cut_gives : (op : BinOp) (w : Width) (a b : KnownBits) (k i : ℕ) → ((n : ℕ) → bit_at (seen w n) k ≡ bit_at n k)
    → ((x y : ℕ) → x < 2 ^ 64 → y < 2 ^ 64 → word_result w op x y ≡ seen w (word_result W64 op x y)) → Gives op W64 a b k i → Gives op w a b k i
cut_gives op w a b k i same whole g =
    gives op w a b k i g.x g.y g.left g.right (ap (λ n. bit_at n k) (whole g.x g.y g.left.word g.right.word) ∙ same (word_result W64 op g.x g.y) ∙ g.is)

pub cut_exact : (op : BinOp) (w : Width) (a b s c : KnownBits) → c.mask ≡ seen w s.mask
    → ((x y : ℕ) → x < 2 ^ 64 → y < 2 ^ 64 → word_result w op x y ≡ seen w (word_result W64 op x y)) → IsExact op W64 a b s → IsExact op w a b c
cut_exact op w a b s c mask whole exact k set =
    let found = seen_set w s.mask k (ap (λ m. bit_at m k) (sym mask) ∙ set) in
    let g = exact k found.0 in
    (cut_gives op w a b k 0 found.1 whole g.0, cut_gives op w a b k 1 found.1 whole g.1)

-- ---- operations on single words

pub no_left : (m n : ℕ) → bit_or m n ≡ 0 → m ≡ 0
no_left m n e = let below = le_or_l m n in omega arith

pub no_right : (m n : ℕ) → bit_or m n ≡ 0 → n ≡ 0
no_right m n e = let below = le_or_r m n in omega arith

-- 0 is the only member where no bit can be 1
pub member_of_zero : (b : KnownBits) (y : ℕ) → bit_or b.value b.mask ≡ 0 → HasBits b y → y ≡ 0
member_of_zero b y none h = member_of_single b y (no_right b.value b.mask none) h ∙ no_left b.value b.mask none

-- an image of single words has no unknown bit
pub only_exact : (r : KnownBits) (n k : ℕ) → IsSingle HasBits r n → bit_at r.mask k ≡ 1 → ⊥
only_exact r n k single set =
    let clear : bit_at r.mask k ≡ bit_at 0 k = ap (λ m. bit_at m k) (no_mask r n single) in
    let none = bit_at-zero k in
    absurd (omega arith)

-- ---- results by the kind of operation

-- the low half of a result needs only the low halves of the operands
pub by_whole : (op : BinOp) → is_told op W32 ≡ true → (w : Width) (x y : ℕ) → x < 2 ^ 64 → y < 2 ^ 64 → word_result w op x y ≡ seen w (word_result W64 op x y)
by_whole op told W32 x y h k = sym (narrow_low op x y told k ∙ seen_same W32 (word_result W32 op x y) (word_result_fits W32 op x y h k))
by_whole op told W64 x y h k = refl

-- a quotient is that of what the width sees
pub divided : (op : BinOp) → (op ≡ Div) ⊎ (op ≡ Mod) → (w : Width) (x y : ℕ) → x < 2 ^ 64 → y < 2 ^ 64 → word_result w op x y ≡ seen w (word_result W64 op (seen w x) (seen w y))
divided op is W64 x y h k = refl
divided op is W32 x y h k = elim is [
  | inl e ↦ rw e (sym (seen_same W32 (word_result W32 Div x y) (word_result_fits W32 Div x y h k)))
  | inr e ↦ rw e (sym (seen_same W32 (word_result W32 Mod x y) (word_result_fits W32 Mod x y h k)))
]

-- a negation is a difference from 0
negated_gives : (w : Width) (z a : KnownBits) (k i : ℕ) → ((x : ℕ) → HasBits z x → x ≡ 0) → Gives Sub w z a k i → GivesImage Neg w a k i
negated_gives w z a k i zero_left g = record {
  x = g.y;
  member = g.right;
  is = ap (λ n. bit_at n k) (negated_is w g.y) ∙ ap (λ n. bit_at (word_result w Sub n g.y) k) (sym (zero_left g.x g.left)) ∙ g.is;
}

pub negated_exact : (w : Width) (z a c : KnownBits) → ((x : ℕ) → HasBits z x → x ≡ 0) → IsExact Sub w z a c → IsExactImage Neg w a c
negated_exact w z a c zero_left exact k set = let g = exact k set in (negated_gives w z a k 0 zero_left g.0, negated_gives w z a k 1 zero_left g.1)
