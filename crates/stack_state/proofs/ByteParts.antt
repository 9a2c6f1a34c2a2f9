-- The bytes of words.
use Rattle.std.proofs.Common.{◌≡◌, ◌↔◌, Bool, true, false, ℕ, zero, suc, ◌+◌, ◌-◌, ◌*◌, ◌/◌, ◌%◌, ◌^◌, ◌<◌, ◌≤◌, List, [], ◌∷◌, length, get_or, map, Some, refl, sym, ap, ◌∙◌, subst, arith, mod-eq_of_lt}
use Rattle.stack_state.proofs.Names.{and-not, and_comm, and_mask, field_of, mod-pow-add, mod_low, mod_below, mul-add-lt, pow-add, pow_pos, shl_whole, shr-shr, shr_below, shr_high, shr_split, Cell}
use Rattle.stack_state.proofs.Names.{low_bytes, number_spelled, Scalar, InScalar, ShowsOne, AmountFits, Add, And, byte_of, word_with}
use Rattle.std.specs.Int.Bits.{bit_and}
use Rattle.std.specs.Option.{option_map}
use Rattle.std.proofs.lemmas.Nat.Bits.{and_high}
use Rattle.std.proofs.Math.Pow.{pow_mono}
use Rattle.insn.specs.declared.state.Cell.TheVariants.{Unset, Byte}
use Rattle.insn.specs.declared.operation.BinOp.{BinOp}
use Rattle.range.specs.Domain.{IsSingleResult, IsSoundResult}
use Rattle.insn.specs.declared.operation.Width.TheVariants.{W64}
use Rattle.insn.specs.Word.{word_result}

-- ---- low bytes

small_byte : (n k : ℕ) → n % 2 ^ (k + 8) % 256 ≡ n % 256
small_byte n k = ap (λ (i : ℕ). i % 256) (mod-pow-add n k 8) ∙ mod_low (n / 2 ^ 8 % 2 ^ k) 8 (n % 2 ^ 8) (mod_below n 256 (omega arith))

-- the low bytes of a word are those of what is left of it
pub byte_low : (z n j : ℕ) → j < n → byte_of (z % 2 ^ (8 * n)) j ≡ byte_of z j
byte_low z n j lt =
    let e : 8 * n ≡ 8 * (n - j) + 8 * j = omega arith in
    let d : 8 * (n - j) ≡ 8 * (n - j - 1) + 8 = omega arith in
    ap (λ (i : ℕ). z % 2 ^ i / 2 ^ (8 * j) % 256) e ∙ ap (λ (i : ℕ). i % 256) (field_of z (8 * (n - j)) (8 * j))
    ∙ ap (λ (i : ℕ). z / 2 ^ (8 * j) % 2 ^ i % 256) d ∙ small_byte (z / 2 ^ (8 * j)) (8 * (n - j - 1))

pub byte_alike : (z y n j : ℕ) → z % 2 ^ (8 * n) ≡ y % 2 ^ (8 * n) → j < n → byte_of z j ≡ byte_of y j
byte_alike z y n j e lt = sym (byte_low z n j lt) ∙ ap (λ (i : ℕ). byte_of i j) e ∙ byte_low y n j lt

-- the bytes above
pub byte_high : (z n j : ℕ) → byte_of (z / 2 ^ (8 * n)) j ≡ byte_of z (n + j)
byte_high z n j =
    let e : 8 * n + 8 * j ≡ 8 * (n + j) = omega arith in
    ap (λ (i : ℕ). i % 256) (shr-shr z (8 * n) (8 * j) ∙ ap (λ (i : ℕ). z / 2 ^ i) e)

pub byte_small : (z j : ℕ) → byte_of z j < 256
byte_small z j = mod_below (z / 2 ^ (8 * j)) 256 (omega arith)

-- ---- a word of which some bytes are replaced

-- its bytes below the last of those
lower : ℕ → ℕ → ℕ → ℕ → ℕ
lower at count w x = x % 2 ^ (8 * count) * 2 ^ (8 * at) + w % 2 ^ (8 * at)

lower_below : (at count w x : ℕ) → lower at count w x < 2 ^ (8 * (at + count))
unfolding lower
lower_below at count w x =
    let e : 8 * (at + count) ≡ 8 * at + 8 * count = omega arith in
    let p : 2 ^ (8 * (at + count)) ≡ 2 ^ (8 * at) * 2 ^ (8 * count) = ap (λ (i : ℕ). 2 ^ i) e ∙ pow-add 2 (8 * at) (8 * count) in
    rw p (mul-add-lt (x % 2 ^ (8 * count)) (2 ^ (8 * at)) (w % 2 ^ (8 * at)) (2 ^ (8 * count)) (mod_below x (2 ^ (8 * count)) (pow_pos (8 * count))) (mod_below w (2 ^ (8 * at)) (pow_pos (8 * at))))

pub with_above : (at count w x j : ℕ) → at + count ≤ j → byte_of (word_with at count w x) j ≡ byte_of w j
unfolding lower
with_above at count w x j ge =
    let t : ℕ = at + count in
    let d : at + count + (j - (at + count)) ≡ j = omega arith in
    ap (byte_of (word_with at count w x)) (sym d) ∙ sym (byte_high (word_with at count w x) (at + count) (j - (at + count)))
    ∙ ap (λ (i : ℕ). byte_of i (j - (at + count))) (shr_high (w / 2 ^ (8 * (at + count))) (8 * (at + count)) (lower at count w x) (lower_below at count w x))
    ∙ byte_high w (at + count) (j - (at + count)) ∙ ap (byte_of w) d

with_lower : (at count w x j : ℕ) → j < at + count → byte_of (word_with at count w x) j ≡ byte_of (lower at count w x) j
unfolding lower
with_lower at count w x j lt =
    byte_alike (word_with at count w x) (lower at count w x) (at + count) j
    (mod_low (w / 2 ^ (8 * (at + count))) (8 * (at + count)) (lower at count w x) (lower_below at count w x) ∙ sym (mod-eq_of_lt (lower_below at count w x))) lt

pub with_there : (at count w x j : ℕ) → at ≤ j → j < at + count → byte_of (word_with at count w x) j ≡ byte_of x (j - at)
unfolding lower
with_there at count w x j ge lt =
    let d : at + (j - at) ≡ j = omega arith in
    with_lower at count w x j lt ∙ ap (byte_of (lower at count w x)) (sym d) ∙ sym (byte_high (lower at count w x) at (j - at))
    ∙ ap (λ (i : ℕ). byte_of i (j - at)) (shr_high (x % 2 ^ (8 * count)) (8 * at) (w % 2 ^ (8 * at)) (mod_below w (2 ^ (8 * at)) (pow_pos (8 * at))))
    ∙ byte_low x count (j - at) (omega arith)

pub with_below : (at count w x j : ℕ) → j < at → byte_of (word_with at count w x) j ≡ byte_of w j
unfolding lower
with_below at count w x j lt =
    with_lower at count w x j (omega arith)
    ∙ byte_alike (lower at count w x) (w % 2 ^ (8 * at)) at j (mod_low (x % 2 ^ (8 * count)) (8 * at) (w % 2 ^ (8 * at)) below ∙ sym (mod-eq_of_lt below)) lt
    ∙ byte_low w at j lt where
      below : w % 2 ^ (8 * at) < 2 ^ (8 * at)
      below = mod_below w (2 ^ (8 * at)) (pow_pos (8 * at))

with_word : (at count w x : ℕ) → at + count ≤ 8 → w < 2 ^ 64 → word_with at count w x < 2 ^ 64
unfolding lower
with_word at count w x inside small =
    let e : 64 ≡ (64 - 8 * (at + count)) + 8 * (at + count) = omega arith in
    let p : 2 ^ 64 ≡ 2 ^ (64 - 8 * (at + count)) * 2 ^ (8 * (at + count)) = ap (λ (i : ℕ). 2 ^ i) e ∙ pow-add 2 (64 - 8 * (at + count)) (8 * (at + count)) in
    let s : w < 2 ^ ((64 - 8 * (at + count)) + 8 * (at + count)) = subst (λ (i : ℕ). w < 2 ^ i) e small in
    let high : w / 2 ^ (8 * (at + count)) < 2 ^ (64 - 8 * (at + count)) = shr_below w (64 - 8 * (at + count)) (8 * (at + count)) s in
    let all : word_with at count w x < 2 ^ (8 * (at + count)) * 2 ^ (64 - 8 * (at + count)) = mul-add-lt (w / 2 ^ (8 * (at + count))) (2 ^ (8 * (at + count))) (lower at count w x) (2 ^ (64 - 8 * (at + count))) high (lower_below at count w x) in
    omega arith

-- ---- by operations

pub masked : (w m k : ℕ) → m + 1 ≡ 2 ^ k → word_result W64 And w m ≡ w % 2 ^ k
masked w m k is = let e : m ≡ 2 ^ k - 1 = omega arith in ap (bit_and w) e ∙ and_mask w k

pub small_shift : (k : ℕ) → k < 8 → 8 * k % 64 ≡ 8 * k
small_shift k lt = omega arith

-- no bytes are taken from a word, and all of it
pub none_taken : (w count : ℕ) → count ≡ 0 → w / 2 ^ (8 * count) ≡ w
none_taken w count e = rw e (omega arith)

pub all_taken : (w count k : ℕ) → count ≡ k → w < 2 ^ (8 * k) → w % 2 ^ (8 * count) ≡ w
all_taken w count k e lt = rw e (mod-eq_of_lt lt)

-- what an operation gives of one amount and another, and of one and a number that is known
pub applied : (exact : Bool) (op : BinOp) (a b c : Scalar) (x y : ℕ) → IsSoundResult InScalar op W64 a b c → IsSingleResult ShowsOne op W64 a b c → AmountFits exact a x → AmountFits exact b y → AmountFits exact c (word_result W64 op x y)
applied true op a b c x y sound single h k = single x y h k
applied false op a b c x y sound single h k = sound x y h k

pub known : (exact : Bool) (b : Scalar) (n : ℕ) → ((x : ℕ) → InScalar b x ↔ (x ≡ n)) → ShowsOne b n → AmountFits exact b n
known true b n alone single = single
known false b n alone single = (alone n).1 refl

pub applied_to : (exact : Bool) (op : BinOp) (a b c : Scalar) (x n : ℕ) → IsSoundResult InScalar op W64 a b c → IsSingleResult ShowsOne op W64 a b c → ((y : ℕ) → InScalar b y ↔ (y ≡ n)) → ShowsOne b n → AmountFits exact a x
    → AmountFits exact c (word_result W64 op x n)
applied_to exact op a b c x n sound single alone one h = applied exact op a b c x n sound single h (known exact b n alone one)

-- a word without some of its bytes, and their place filled
module _ (at count w x m : ℕ) (inside : at + count ≤ 8) (small : w < 2 ^ 64) (mask : m + 1 ≡ 2 ^ (8 * count)) where
  wide : 8 * (at + count) ≡ 8 * count + 8 * at
  wide = omega arith

  whole_mask : m * 2 ^ (8 * at) ≡ 2 ^ (8 * count + 8 * at) - 2 ^ (8 * at)
  whole_mask =
      let p : 2 ^ (8 * count + 8 * at) ≡ 2 ^ (8 * count) * 2 ^ (8 * at) = pow-add 2 (8 * count) (8 * at) in
      let q : (m + 1) * 2 ^ (8 * at) ≡ 2 ^ (8 * count) * 2 ^ (8 * at) = ap (λ (i : ℕ). i * 2 ^ (8 * at)) mask in
      omega arith

  pub mask_fits : m * 2 ^ (8 * at) < 2 ^ 64
  mask_fits =
      let le : 2 ^ (8 * count + 8 * at) ≤ 2 ^ 64 = pow_mono {i = 8 * count + 8 * at} {j = 64} (omega arith) in
      let e = whole_mask in
      let some : 0 < 2 ^ (8 * at) = pow_pos (8 * at) in
      let up : 0 < 2 ^ (8 * count + 8 * at) = pow_pos (8 * count + 8 * at) in
      omega arith

  pub cleared : word_result W64 And w (2 ^ 64 - 1 - m * 2 ^ (8 * at)) ≡ w / 2 ^ (8 * (at + count)) * 2 ^ (8 * (at + count)) + w % 2 ^ (8 * at)
  cleared =
      let gone : bit_and w (m * 2 ^ (8 * at)) ≡ (w / 2 ^ (8 * at) % 2 ^ (8 * count)) * 2 ^ (8 * at) = ap (bit_and w) whole_mask ∙ and_high w (8 * count) (8 * at) in
      let both : bit_and (2 ^ 64 - 1 - m * 2 ^ (8 * at)) w + bit_and (m * 2 ^ (8 * at)) w ≡ w = and-not 64 (m * 2 ^ (8 * at)) w mask_fits small in
      let one : bit_and (2 ^ 64 - 1 - m * 2 ^ (8 * at)) w ≡ bit_and w (2 ^ 64 - 1 - m * 2 ^ (8 * at)) = and_comm (2 ^ 64 - 1 - m * 2 ^ (8 * at)) w in
      let other : bit_and (m * 2 ^ (8 * at)) w ≡ bit_and w (m * 2 ^ (8 * at)) = and_comm (m * 2 ^ (8 * at)) w in
      let split : w / 2 ^ (8 * (at + count)) * 2 ^ (8 * (at + count)) + w % 2 ^ (8 * (at + count)) ≡ w = shr_split w (8 * (at + count)) in
      let low : w % 2 ^ (8 * (at + count)) ≡ (w / 2 ^ (8 * at) % 2 ^ (8 * count)) * 2 ^ (8 * at) + w % 2 ^ (8 * at) = ap (λ (i : ℕ). w % 2 ^ i) wide ∙ mod-pow-add w (8 * count) (8 * at) in
      omega arith

  placed : x % 2 ^ (8 * count) * 2 ^ (8 * at) % 2 ^ 64 ≡ x % 2 ^ (8 * count) * 2 ^ (8 * at)
  placed = shl_whole (x % 2 ^ (8 * count)) (8 * count) (8 * at) 64 (mod_below x (2 ^ (8 * count)) (pow_pos (8 * count))) (omega arith)

  pub filled : word_result W64 Add (word_result W64 And w (2 ^ 64 - 1 - m * 2 ^ (8 * at))) (x % 2 ^ (8 * count) * 2 ^ (8 * at) % 2 ^ 64) ≡ word_with at count w x
  filled =
      let all : word_with at count w x < 2 ^ 64 = with_word at count w x inside small in
      let sum : word_result W64 And w (2 ^ 64 - 1 - m * 2 ^ (8 * at)) + x % 2 ^ (8 * count) * 2 ^ (8 * at) % 2 ^ 64 ≡ word_with at count w x = let a = cleared in let b = placed in omega arith in
      ap (λ (i : ℕ). i % 2 ^ 64) sum ∙ mod-eq_of_lt all

-- ---- what cells spell

pub low_byte_is : (k n j : ℕ) → j < k → get_or (map Byte (low_bytes k n)) j Unset ≡ Byte (byte_of n j)
low_byte_is zero n j lt = absurd (omega arith)
low_byte_is (suc k) n zero lt = ap (λ (i : ℕ). Byte (i % 256)) (omega arith)
low_byte_is (suc k) n (suc j) lt =
    let e : 1 + j ≡ suc j = omega arith in
    low_byte_is k (n / 256) j (omega arith) ∙ ap (λ (i : ℕ). Byte i) (byte_high n 1 j ∙ ap (byte_of n) e)

-- bytes of a word spell what they are of it
pub spelled_bytes : (cells : List Cell) (v : ℕ) → ((k : ℕ) → k < length cells → get_or cells k Unset ≡ Byte (byte_of v k)) → number_spelled cells ≡ Some (v % 2 ^ (8 * length cells))
spelled_bytes [] v h = ap (λ (i : ℕ). Some i) (omega arith)
spelled_bytes (c ∷ cells) v h =
    let first : c ≡ Byte (byte_of v 0) = h 0 (omega arith) in
    let rest : number_spelled cells ≡ Some (v / 256 % 2 ^ (8 * length cells)) = spelled_bytes cells (v / 256) (λ k lt. h (suc k) (omega arith) ∙ ap (λ (i : ℕ). Byte i) (sym (byte_high v 1 k ∙ ap (byte_of v) (omega arith)))) in
    let e : 8 * suc (length cells) ≡ 8 * length cells + 8 = omega arith in
    let whole : v % 2 ^ (8 * suc (length cells)) ≡ (v / 256 % 2 ^ (8 * length cells)) * 256 + v % 256 = ap (λ (i : ℕ). v % 2 ^ i) e ∙ mod-pow-add v (8 * length cells) 8 in
    let low : byte_of v 0 ≡ v % 256 = ap (λ (i : ℕ). i % 256) (omega arith) in
    ap (λ (x : Cell). number_spelled (x ∷ cells)) first ∙ ap (option_map (λ (m : ℕ). byte_of v 0 + 256 * m)) rest ∙ ap (λ (m : ℕ). Some m) (omega arith)

-- ---- a word of given bytes

pub word_of : ℕ → (ℕ → ℕ) → ℕ
word_of zero f = 0
word_of (suc n) f = f 0 + 256 * word_of n (λ j. f (suc j))

pub word_of_byte : (n : ℕ) (f : ℕ → ℕ) → ((j : ℕ) → f j < 256) → (j : ℕ) → j < n → byte_of (word_of n f) j ≡ f j
unfolding word_of
word_of_byte zero f small j lt = absurd (omega arith)
word_of_byte (suc n) f small zero lt = let s = small 0 in omega arith
word_of_byte (suc n) f small (suc j) lt =
    let e : 1 + j ≡ suc j = omega arith in
    let s = small 0 in
    let d : (f 0 + 256 * word_of n (λ i. f (suc i))) / 2 ^ (8 * 1) ≡ word_of n (λ i. f (suc i)) = omega arith in
    ap (byte_of (word_of (suc n) f)) (sym e) ∙ sym (byte_high (word_of (suc n) f) 1 j) ∙ ap (λ (i : ℕ). byte_of i j) d ∙ word_of_byte n (λ i. f (suc i)) (λ i. small (suc i)) j (omega arith)
