-- The bits of sums and of operations bit by bit, and members for which an unknown bit of a result is 0, and such for which it is 1.
use Rattle.std.proofs.Common.{◌≡◌, ℕ, ◌+◌, ◌-◌, ◌*◌, ◌/◌, ◌%◌, ◌^◌, ◌<◌, ◌≤◌, sym, ap, ◌∙◌, arith, ◌↔◌, max, inl, inr, w64, min}
use Rattle.known_bits.proofs.Names.{pow_pos, shr_split, mod_below, and_mod, le-div, div_below, or_disjoint, and_pow, bit_at-lt, bit_at_or, bit_at_xor, add-mul, zero-mul, mul-add-div_right, bit_at}
use Rattle.known_bits.proofs.Names.{bit_and, bit_xor, KnownBits, HasBits, carry, cases_lt, or_lt, bit_at_above, bit_at_not, bit_at-pow_same, bit_not, Width, W64, BinOp, Add, Sub, Mov, unary_result}
use Rattle.known_bits.proofs.Names.{word_result, IsSoundImage, Gives, IsExact, IsExactImage, MovesBits, bit_at_and, Or, And, Xor, word_result_fits, IsSoundResult}
use Rattle.std.specs.Int.RustNames.{bit_or}
use Rattle.known_bits.proofs.Agreeing.{bit_at_mod, subset_le, least_in, in_greatest, unlike_at, apart_at, apart_from, set_below, bit_cases, agrees_below, agrees_self, agrees_greatest, agrees_with_one, bits_between, and_not_at}
use Rattle.insn.specs.declared.operation.UnOp.{UnOp}
use Rattle.known_bits.proofs.Moving.{moved_agrees}

sum_shifted : (x y k : ℕ) → (x + y) / 2 ^ k ≡ x / 2 ^ k + y / 2 ^ k + carry k x y
sum_shifted x y k =
    let whole : x + y ≡ (x / 2 ^ k + y / 2 ^ k) * 2 ^ k + (x % 2 ^ k + y % 2 ^ k) = omega (arith, shr_split x k, shr_split y k, add-mul (x / 2 ^ k) (y / 2 ^ k) (2 ^ k)) in
    ap (λ s. s / 2 ^ k) whole ∙ mul-add-div_right (pow_pos k) (x / 2 ^ k + y / 2 ^ k) (x % 2 ^ k + y % 2 ^ k)

-- a bit of a sum is the sum of the bits and the carry into it
pub bit_at_sum : (x y k : ℕ) → bit_at (x + y) k ≡ (bit_at x k + bit_at y k + carry k x y) % 2
bit_at_sum x y k = let shifted = sum_shifted x y k in omega arith

pub carry_small : (k x y : ℕ) → carry k x y < 2
carry_small k x y = div_below (x % 2 ^ k + y % 2 ^ k) (2 ^ k) 2 (pow_pos k) (omega (arith, mod_below x (2 ^ k) (pow_pos k), mod_below y (2 ^ k) (pow_pos k)))

-- the bits in which a sum differs from the sum without carries
pub carries_at : (x y k : ℕ) → k < 64 → bit_at (bit_xor (bit_xor ((x + y) % 2 ^ 64) x) y) k ≡ carry k x y
carries_at x y k low =
    let total = bit_at_mod (x + y) 64 k low in
    omega (arith, total, bit_at_sum x y k, bit_at_xor (bit_xor ((x + y) % 2 ^ 64) x) y k, bit_at_xor ((x + y) % 2 ^ 64) x k, carry_small k x y, bit_at-lt x k, bit_at-lt y k)

-- greater low parts carry more
carry_mono : (k x y a b : ℕ) → bit_and x a ≡ x → bit_and y b ≡ y → carry k x y ≤ carry k a b
carry_mono k x y a b p q =
    le-div (carry k x y) (a % 2 ^ k + b % 2 ^ k) (2 ^ k) (pow_pos k) (omega (arith, low_le x a p, low_le y b q, shr_split (x % 2 ^ k + y % 2 ^ k) k))
  where
    low_le : (n m : ℕ) → bit_and n m ≡ n → n % 2 ^ k ≤ m % 2 ^ k
    low_le n m e = subset_le (n % 2 ^ k) (m % 2 ^ k) (sym (and_mod n m k) ∙ ap (λ z. z % 2 ^ k) e)

-- ---- sums

-- a bit of a sum that is known: the carries of members lie between those of the least and those of the greatest
pub sum_known : (a b : KnownBits) (x y lc gc k : ℕ) → HasBits a x → HasBits b y
    → bit_at lc k ≡ carry k a.value b.value → bit_at gc k ≡ carry k (bit_or a.value a.mask) (bit_or b.value b.mask)
    → bit_at (bit_or (bit_or a.mask b.mask) (bit_xor lc gc)) k ≡ 0 → bit_at (x + y) k ≡ bit_at (a.value + b.value) k
sum_known a b x y lc gc k hx hy l g clear =
    let least = carry_mono k a.value b.value x y (least_in a x hx) (least_in b y hy) in
    let greatest = carry_mono k x y (bit_or a.value a.mask) (bit_or b.value b.mask) (in_greatest a x hx) (in_greatest b y hy) in
    let small = carry_small k (bit_or a.value a.mask) (bit_or b.value b.mask) in
    let masks = sym (unlike_at a.mask b.mask lc gc k) ∙ clear in
    let same_left : bit_at x k ≡ bit_at a.value k = hx.same k (omega arith) in
    let same_right : bit_at y k ≡ bit_at b.value k = hy.same k (omega arith) in
    let same_carry : carry k x y ≡ carry k a.value b.value = omega arith in
    omega (arith, bit_at_sum x y k, bit_at_sum a.value b.value k)

-- a bit that is set in one operand, and was not, turns that of the sum
pub flips : (v s t k : ℕ) → bit_at v k ≡ 0 → t + v ≡ s + bit_or v (2 ^ k) → bit_at t k ≡ 1 - bit_at s k
flips v s t k clear e =
    let plus : bit_or v (2 ^ k) ≡ v + 2 ^ k = or_disjoint v (2 ^ k) (and_pow v k ∙ ap (λ b. b * 2 ^ k) clear ∙ zero-mul (2 ^ k)) in
    let whole : t ≡ 1 * 2 ^ k + s = omega arith in
    let here : t / 2 ^ k ≡ 1 + s / 2 ^ k = ap (λ n. n / 2 ^ k) whole ∙ mul-add-div_right (pow_pos k) 1 s in
    omega arith

-- where only the carries differ, so do the sums of the least and of the greatest members
pub carry_flips : (a b : KnownBits) (lc gc k : ℕ) → bit_at a.mask k ≡ 0 → bit_at b.mask k ≡ 0
    → bit_at lc k ≡ carry k a.value b.value → bit_at gc k ≡ carry k (bit_or a.value a.mask) (bit_or b.value b.mask)
    → bit_at (bit_or (bit_or a.mask b.mask) (bit_xor lc gc)) k ≡ 1 → bit_at (bit_or a.value a.mask + bit_or b.value b.mask) k ≡ 1 - bit_at (a.value + b.value) k
carry_flips a b lc gc k left right l g set =
    let differ : (bit_at lc k + bit_at gc k) % 2 ≡ 1 = omega (arith, sym (unlike_at a.mask b.mask lc gc k) ∙ set) in
    let same_left : bit_at (bit_or a.value a.mask) k ≡ bit_at a.value k = omega (arith, bit_at_or a.value a.mask k, bit_at-lt a.value k) in
    let same_right : bit_at (bit_or b.value b.mask) k ≡ bit_at b.value k = omega (arith, bit_at_or b.value b.mask k, bit_at-lt b.value k) in
    omega (arith, bit_at_sum a.value b.value k, bit_at_sum (bit_or a.value a.mask) (bit_or b.value b.mask) k)

-- ==== members for which an unknown bit of a result is 0, and such for which it is 1

-- ---- two results that differ

-- what the members of two operands give
pub gives : (op : BinOp) (w : Width) (a b : KnownBits) (k i x y : ℕ) → HasBits a x → HasBits b y → bit_at (word_result w op x y) k ≡ i → Gives op w a b k i
gives op w a b k i x y hx hy is = record { x = x; y = y; left = hx; right = hy; is = is }

-- members whose result has another bit than that of the least ones
pub both_from : (op : BinOp) (w : Width) (a b : KnownBits) (k x y : ℕ) → HasBits a x → HasBits b y
    → bit_at (word_result w op x y) k ≡ 1 - bit_at (word_result w op a.value b.value) k → Gives op w a b k 0 × Gives op w a b k 1
both_from op w a b k x y hx hy differ = elim (bit_cases (word_result w op a.value b.value) k) [
  | inl clear ↦ (gives op w a b k 0 a.value b.value (agrees_self a) (agrees_self b) clear, gives op w a b k 1 x y hx hy (differ ∙ ap (λ i. 1 - i) clear))
  | inr set ↦ (gives op w a b k 0 x y hx hy (differ ∙ ap (λ i. 1 - i) set), gives op w a b k 1 a.value b.value (agrees_self a) (agrees_self b) set)
]

-- ---- sums

sum_bit : (x y k : ℕ) → k < 64 → bit_at (word_result W64 Add x y) k ≡ bit_at (x + y) k
sum_bit x y k low = bit_at_mod (x + y) 64 k low

sum_both : (a b : KnownBits) (k x y : ℕ) → k < 64 → HasBits a x → HasBits b y → bit_at (x + y) k ≡ 1 - bit_at (a.value + b.value) k → Gives Add W64 a b k 0 × Gives Add W64 a b k 1
sum_both a b k x y low hx hy differ = both_from Add W64 a b k x y hx hy (sum_bit x y k low ∙ differ ∙ ap (λ i. 1 - i) (sym (sum_bit a.value b.value k low)))

pub sum_exact : (a b : KnownBits) (lc gc k : ℕ) → k < 64
    → bit_at lc k ≡ carry k a.value b.value → bit_at gc k ≡ carry k (bit_or a.value a.mask) (bit_or b.value b.mask)
    → bit_at (bit_or (bit_or a.mask b.mask) (bit_xor lc gc)) k ≡ 1 → Gives Add W64 a b k 0 × Gives Add W64 a b k 1
sum_exact a b lc gc k low l g set = elim (bit_cases a.mask k) [
  | inr left ↦ sum_both a b k (bit_or a.value (2 ^ k)) b.value low (agrees_with_one a k left) (agrees_self b) (flips a.value _ _ k (apart_at a k left) (omega arith))
  | inl left ↦ elim (bit_cases b.mask k) [
    | inr right ↦ sum_both a b k a.value (bit_or b.value (2 ^ k)) low (agrees_self a) (agrees_with_one b k right) (flips b.value _ _ k (apart_at b k right) (omega arith))
    | inl right ↦ sum_both a b k (bit_or a.value a.mask) (bit_or b.value b.mask) low (agrees_greatest a) (agrees_greatest b) (carry_flips a b lc gc k left right l g set)
  ]
]

pub sum_sound : (a b r : KnownBits) (lc gc : ℕ)
    → ((k : ℕ) → k < 64 → bit_at lc k ≡ carry k a.value b.value) → ((k : ℕ) → k < 64 → bit_at gc k ≡ carry k (bit_or a.value a.mask) (bit_or b.value b.mask))
    → r.mask ≡ bit_or (bit_or a.mask b.mask) (bit_xor lc gc)
    → ((k : ℕ) → bit_at r.mask k ≡ 0 → bit_at r.value k ≡ bit_at ((a.value + b.value) % 2 ^ 64) k)
    → (x y : ℕ) → HasBits a x → HasBits b y → HasBits r (word_result W64 Add x y)
sum_sound a b r lc gc l g is each x y hx hy =
    agrees_below r.value r.mask ((x + y) % 2 ^ 64) (mod_below (x + y) (2 ^ 64) (pow_pos 64)) r.fits (λ k low clear.
    sum_bit x y k low ∙ sum_known a b x y lc gc k hx hy (l k low) (g k low) (ap (λ m. bit_at m k) (sym is) ∙ clear)
    ∙ sym (sum_bit a.value b.value k low) ∙ sym (each k clear))

-- ---- differences

not_not : (x : ℕ) → x < 2 ^ 64 → bit_not w64 (bit_not w64 x) ≡ x
not_not x h = omega arith

not_fits : (x : ℕ) → bit_not w64 x < 2 ^ 64
not_fits x = omega arith

-- a difference is the complement of a sum with the complement
difference_by_sum : (x y : ℕ) → x < 2 ^ 64 → y < 2 ^ 64 → word_result W64 Sub x y ≡ bit_not w64 (word_result W64 Add (bit_not w64 x) y)
difference_by_sum x y h k = omega arith

complement_at : (b : KnownBits) (k : ℕ) → k < 64 → bit_at (bit_not w64 (bit_or b.value b.mask)) k ≡ 1 - max (bit_at b.value k) (bit_at b.mask k)
complement_at b k low = bit_at_not w64 (bit_or b.value b.mask) k (or_lt 64 b.value b.mask b.fits b.mask_fits) low ∙ ap (λ i. 1 - i) (bit_at_or b.value b.mask k)

pub complement_apart : (b : KnownBits) → bit_and (bit_not w64 (bit_or b.value b.mask)) b.mask ≡ 0
complement_apart b = apart_from (bit_not w64 (bit_or b.value b.mask)) b.mask (λ k. elim (cases_lt k 64) [
  | inl low ↦ omega (arith, complement_at b k low, bit_at-lt b.mask k)
  | inr high ↦ omega (arith, bit_at_above b.mask 64 k b.mask_fits high)
])

-- the complements of the members
abbrev pub AreComplements : KnownBits → KnownBits → Type 0
AreComplements a c = (x : ℕ) → x < 2 ^ 64 → HasBits c x ↔ HasBits a (bit_not w64 x)

pub complement_has : (a c : KnownBits) → c.value ≡ bit_not w64 (bit_or a.value a.mask) → c.mask ≡ a.mask → AreComplements a c
complement_has a c value mask x word = rw (value, mask) (
  (λ h. agrees_below a.value a.mask (bit_not w64 x) (not_fits x) a.fits (λ k low clear.
      omega (arith, h.same k clear, complement_at a k low, bit_at_not w64 x k word low, bit_at-lt a.value k))),
  (λ h. agrees_below _ a.mask x word (not_fits (bit_or a.value a.mask)) (λ k low clear.
      omega (arith, h.same k clear, complement_at a k low, bit_at_not w64 x k word low, bit_at-lt x k))),
)

pub difference_sound : (a b n s r : KnownBits) → AreComplements a n → AreComplements s r
    → ((x y : ℕ) → HasBits n x → HasBits b y → HasBits s (word_result W64 Add x y)) → (x y : ℕ) → HasBits a x → HasBits b y → HasBits r (word_result W64 Sub x y)
difference_sound a b n s r left back sum x y hx hy =
    let total = sum (bit_not w64 x) y ((left (bit_not w64 x) (not_fits x)).1 (rw (not_not x hx.word) hx)) hy in
    rw (difference_by_sum x y hx.word hy.word) ((back _ (not_fits _)).1 (rw (not_not _ total.word) total))

difference_gives : (a b n : KnownBits) (k i : ℕ) → AreComplements a n → k < 64 → Gives Add W64 n b k i → Gives Sub W64 a b k (1 - i)
difference_gives a b n k i left low g =
    let back : word_result W64 Sub (bit_not w64 g.x) g.y ≡ bit_not w64 (word_result W64 Add g.x g.y) =
    difference_by_sum (bit_not w64 g.x) g.y (not_fits g.x) g.right.word ∙ ap (λ z. bit_not w64 (word_result W64 Add z g.y)) (not_not g.x g.left.word) in
    gives Sub W64 a b k (1 - i) (bit_not w64 g.x) g.y ((left g.x g.left.word).0 g.left) g.right
    (ap (λ z. bit_at z k) back ∙ bit_at_not w64 (word_result W64 Add g.x g.y) k (mod_below (g.x + g.y) (2 ^ 64) (pow_pos 64)) low ∙ ap (λ z. 1 - z) g.is)

pub difference_exact : (a b n s r : KnownBits) → AreComplements a n → r.mask ≡ s.mask → IsExact Add W64 n b s → IsExact Sub W64 a b r
difference_exact a b n s r left mask sum k set =
    let low = set_below r.mask k r.mask_fits set in
    let g = sum k (ap (λ m. bit_at m k) (sym mask) ∙ set) in
    (difference_gives a b n k 1 left low g.1, difference_gives a b n k 0 left low g.0)

-- ---- moved bits

-- the member that has the unknown bit
record HasUnknown (f : ℕ → ℕ) (a : KnownBits) (k : ℕ) : Type 0 where
  x : ℕ
  member : HasBits a x
  one : bit_at (f x) k ≡ 1
  zero_at_least : bit_at (f a.value) k ≡ 0

has_unknown : (f : ℕ → ℕ) (a : KnownBits) (k : ℕ) → MovesBits f → bit_at (f a.mask) k ≡ 1 → HasUnknown f a k
has_unknown f a k moves set = elim (moves.source k) [
  | inl none ↦ let clear = none a.mask a.mask_fits in absurd (omega arith)
  | inr s ↦
      let unknown : bit_at a.mask s.0 ≡ 1 = sym (s.1 a.mask a.mask_fits) ∙ set in
      let member = agrees_with_one a s.0 unknown in
      record {
        x = bit_or a.value (2 ^ s.0);
        member = member;
        one = s.1 (bit_or a.value (2 ^ s.0)) member.word ∙ omega (arith, apart_at a s.0 unknown, bit_at_or a.value (2 ^ s.0) s.0, bit_at-pow_same s.0);
        zero_at_least = s.1 a.value a.fits ∙ apart_at a s.0 unknown;
      }
]

pub moved_exact : (op : BinOp) (w : Width) (a b r : KnownBits) → MovesBits (λ x. word_result w op x b.value) → r.mask ≡ word_result w op a.mask b.value → IsExact op w a b r
moved_exact op w a b r moves mask k set =
    let u = has_unknown (λ (x : ℕ). word_result w op x b.value) a k moves (ap (λ m. bit_at m k) (sym mask) ∙ set) in
    both_from op w a b k u.x b.value u.member (agrees_self b) (u.one ∙ ap (λ i. 1 - i) (sym u.zero_at_least))

pub moved_image : (op : UnOp) (w : Width) (a r : KnownBits) → MovesBits (λ x. unary_result op w x) → r.value ≡ unary_result op w a.value → r.mask ≡ unary_result op w a.mask → IsSoundImage HasBits op w a r × IsExactImage op w a r
moved_image op w a r moves value mask = (
  λ x h. rw (value, mask) (moved_agrees (λ n. unary_result op w n) a x moves h),
  λ k set.
      let u = has_unknown (λ n. unary_result op w n) a k moves (ap (λ m. bit_at m k) (sym mask) ∙ set) in
      (record { x = a.value; member = agrees_self a; is = u.zero_at_least }, record { x = u.x; member = u.member; is = u.one }),
)

-- a moved operand is exact
pub right_exact : (a b : KnownBits) → IsExact Mov W64 a b b
right_exact a b k set = both_from Mov W64 a b k a.value (bit_or b.value (2 ^ k)) (agrees_self a) (agrees_with_one b k set)
    (omega (arith, apart_at b k set, bit_at_or b.value (2 ^ k) k, bit_at-pow_same k))

-- ==== operations on the bits of two words, one by one

-- what is in one number and not in another is apart from that
pub without_apart : (v m : ℕ) → v < 2 ^ 64 → m < 2 ^ 64 → bit_and v (bit_and m (bit_not w64 v)) ≡ 0
without_apart v m fits mask_fits = apart_from v _ (λ k. omega (arith, and_not_at m v k mask_fits fits, bit_at-lt v k))

-- ---- operations that grow with the bits of both words

abbrev pub Grows : BinOp → Type 0
Grows op = (x y m n k : ℕ) → bit_at x k ≤ bit_at m k → bit_at y k ≤ bit_at n k → bit_at (word_result W64 op x y) k ≤ bit_at (word_result W64 op m n) k

pub and_grows : Grows And
and_grows x y m n k p q = omega (arith, bit_at_and x y k, bit_at_and m n k)

pub or_grows : Grows Or
or_grows x y m n k p q = omega (arith, bit_at_or x y k, bit_at_or m n k)

-- the results of the least and of the greatest members
abbrev least_result : BinOp → KnownBits → KnownBits → ℕ
least_result op a b = word_result W64 op a.value b.value

abbrev greatest_result : BinOp → KnownBits → KnownBits → ℕ
greatest_result op a b = word_result W64 op (bit_or a.value a.mask) (bit_or b.value b.mask)

unknown_at : (op : BinOp) (a b r : KnownBits) (k : ℕ) → r.mask ≡ bit_and (greatest_result op a b) (bit_not w64 (least_result op a b))
    → bit_at r.mask k ≡ min (bit_at (greatest_result op a b) k) (1 - bit_at (least_result op a b) k)
unknown_at op a b r k mask = ap (λ m. bit_at m k) mask
    ∙ and_not_at _ _ k (word_result_fits W64 op _ _ (agrees_greatest a).word (agrees_greatest b).word) (word_result_fits W64 op _ _ a.fits b.fits)

pub grown_sound : (op : BinOp) (a b r : KnownBits) → Grows op → r.value ≡ least_result op a b → r.mask ≡ bit_and (greatest_result op a b) (bit_not w64 (least_result op a b)) → IsSoundResult HasBits op W64 a b r
grown_sound op a b r grows value mask x y hx hy = record {
  word = word_result_fits W64 op x y hx.word hy.word;
  same = λ k clear.
      let left = bits_between a x k hx in
      let right = bits_between b y k hy in
      let low = grows a.value b.value x y k left.0 right.0 in
      let high = grows x y (bit_or a.value a.mask) (bit_or b.value b.mask) k left.1 right.1 in
      let known = sym (unknown_at op a b r k mask) ∙ clear in
      omega (arith, known, bit_at-lt (word_result W64 op x y) k) ∙ ap (λ m. bit_at m k) (sym value);
}

pub grown_exact : (op : BinOp) (a b r : KnownBits) → r.mask ≡ bit_and (greatest_result op a b) (bit_not w64 (least_result op a b)) → IsExact op W64 a b r
grown_exact op a b r mask k set =
    let unknown = sym (unknown_at op a b r k mask) ∙ set in
    both_from op W64 a b k (bit_or a.value a.mask) (bit_or b.value b.mask) (agrees_greatest a) (agrees_greatest b) (omega (arith, unknown, bit_at-lt (greatest_result op a b) k))

-- ---- the bits of one alone

pub xor_sound : (a b r : KnownBits) → r.mask ≡ bit_or a.mask b.mask → ((k : ℕ) → bit_at r.mask k ≡ 0 → bit_at r.value k ≡ bit_at (bit_xor a.value b.value) k) → IsSoundResult HasBits Xor W64 a b r
xor_sound a b r mask each x y hx hy = record {
  word = word_result_fits W64 Xor x y hx.word hy.word;
  same = λ k clear.
      let known : max (bit_at a.mask k) (bit_at b.mask k) ≡ 0 = sym (bit_at_or a.mask b.mask k) ∙ ap (λ m. bit_at m k) (sym mask) ∙ clear in
      let left : bit_at x k ≡ bit_at a.value k = hx.same k (omega arith) in
      let right : bit_at y k ≡ bit_at b.value k = hy.same k (omega arith) in
      omega (arith, each k clear, bit_at_xor x y k, bit_at_xor a.value b.value k);
}

pub xor_exact : (a b r : KnownBits) → r.mask ≡ bit_or a.mask b.mask → IsExact Xor W64 a b r
xor_exact a b r mask k set =
    let unknown : max (bit_at a.mask k) (bit_at b.mask k) ≡ 1 = sym (bit_at_or a.mask b.mask k) ∙ ap (λ m. bit_at m k) (sym mask) ∙ set in
    elim (bit_cases a.mask k) [
      | inr left ↦
          let x = bit_or a.value (2 ^ k) in
          both_from Xor W64 a b k x b.value (agrees_with_one a k left) (agrees_self b)
          (omega (arith, apart_at a k left, bit_at_or a.value (2 ^ k) k, bit_at-pow_same k, bit_at_xor a.value b.value k, bit_at_xor x b.value k, bit_at-lt b.value k))
      | inl left ↦
          let y = bit_or b.value (2 ^ k) in
          let right : bit_at b.mask k ≡ 1 = omega arith in
          both_from Xor W64 a b k a.value y (agrees_self a) (agrees_with_one b k right)
          (omega (arith, apart_at b k right, bit_at_or b.value (2 ^ k) k, bit_at-pow_same k, bit_at_xor a.value b.value k, bit_at_xor a.value y k, bit_at-lt a.value k))
    ]
