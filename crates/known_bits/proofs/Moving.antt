-- Functions that move bits take members to members; byte swaps, signed shifts and sign extensions move bits.
use Rattle.std.proofs.Common.{◌≡◌, ℕ, ◌+◌, ◌-◌, ◌*◌, ◌/◌, ◌%◌, ◌^◌, ◌≤◌, refl, sym, ap, ◌∙◌, inl, inr, lt_of_le_of_lt, div-le_self, arith, zero, suc, ◌<◌, w16, w32, w64, ℤ, pos, negsuc, ◌≢◌, Bool}
use Rattle.std.proofs.Common.{true, false, IsTrue}
use Rattle.known_bits.proofs.Names.{cases_lt, pow_pos, mod_below, shr-shr, bit_at-zero, bit_at_cat_low, bit_at_cat_high, bit_at, bit_and, Width, W32, W64, Lsh, Rsh, seen, word_result, KnownBits}
use Rattle.known_bits.proofs.Names.{Agrees, HasBits, MovesBits, bit_at_above, IntWidth, swap_bytes, swap_width, word_swapped, wrapped, word_swapped_fits, le-div, div_below, bit_at-lt, bit_at_not}
use Rattle.known_bits.proofs.Names.{mod-eq_of_lt, bit_not, cast_signed, cast_unsigned, int_shr, Arsh, int_width, extend_width, word_extended, word_result_fits, word_extended_fits, word_in_width}
use Rattle.known_bits.proofs.Names.{Decides-eqb, nat_tests, is_exact, BinOp, Neg, Swap, Extend, unary_result, MovesLeft}
use native.Mathlib.Nat.{mod-le}
use Rattle.known_bits.proofs.Agreeing.{apart_bits, apart_from, bit_at_mod, bit_at_mod_above}
use mir.Val.{bits, hbits}
use Rattle.insn.specs.declared.operation.SwapKind.{SwapKind}
use Rattle.insn.specs.declared.operation.SwapKind.TheVariants.{ToLittle}
use Rattle.insn.specs.declared.operation.SwapBits.{SwapBits}
use Rattle.std.proofs.lemmas.Int.{to_z_pos}
use mir.ValLaws.{to_z-neg}
use Rattle.insn.specs.declared.operation.ExtendBits.{ExtendBits}
use Rattle.insn.specs.declared.operation.UnOp.{UnOp}
use Rattle.insn.specs.declared.operation.SwapBits.TheVariants as swapped
use Rattle.insn.specs.declared.operation.ExtendBits.TheVariants as extended

pub moved_agrees : (f : ℕ → ℕ) (b : KnownBits) (x : ℕ) → MovesBits f → HasBits b x → Agrees (f b.value) (f b.mask) (f x)
moved_agrees f b x moves h = record {
  word = moves.fits x h.word;
  same = λ k clear. elim (moves.source k) [
    | inl none ↦ none x h.word ∙ sym (none b.value b.fits)
    | inr s ↦ s.1 x h.word ∙ h.same s.0 (sym (s.1 b.mask b.mask_fits) ∙ clear) ∙ sym (s.1 b.value b.fits)
  ];
}

pub moved_apart : (f : ℕ → ℕ) (b : KnownBits) → MovesBits f → bit_and (f b.value) (f b.mask) ≡ 0
moved_apart f b moves = apart_from (f b.value) (f b.mask) (λ k. elim (moves.source k) [
  | inl none ↦ omega (arith, none b.value b.fits)
  | inr s ↦ omega (arith, s.1 b.value b.fits, s.1 b.mask b.mask_fits, apart_bits b s.0)
])

-- one move after another
pub then_moves : (f g : ℕ → ℕ) → MovesBits f → MovesBits g → MovesBits (λ n. g (f n))
then_moves f g first second = record {
  fits = λ n h. second.fits (f n) (first.fits n h);
  source = λ k. elim (second.source k) [
    | inl none ↦ inl (λ n h. none (f n) (first.fits n h))
    | inr s ↦ elim (first.source s.0) [
      | inl none ↦ inl (λ n h. s.1 (f n) (first.fits n h) ∙ none n h)
      | inr t ↦ inr (t.0, λ n h. s.1 (f n) (first.fits n h) ∙ t.1 n h)
    ]
  ];
}

pub stays_moves : MovesBits (λ n. n)
stays_moves = record { fits = λ n h. h; source = λ k. inr (k, λ n h. refl) }

-- the low bits
pub low_moves : (j : ℕ) → MovesBits (λ n. n % 2 ^ j)
low_moves j = record {
  fits = λ n h. lt_of_le_of_lt (mod-le n (2 ^ j)) h;
  source = λ k. elim (cases_lt k j) [
    | inl low ↦ inr (k, λ n h. bit_at_mod n j k low)
    | inr high ↦ inl (λ n h. bit_at_mod_above n j k high)
  ];
}

-- bits moved down
pub down_moves : (j : ℕ) → MovesBits (λ n. n / 2 ^ j)
down_moves j = record {
  fits = λ n h. lt_of_le_of_lt (div-le_self n (2 ^ j)) h;
  source = λ k. inr (j + k, λ n h. ap (λ q. q % 2) (shr-shr n j k));
}

-- bits moved up
pub up_moves : (b j : ℕ) → 2 ^ b ≤ 2 ^ 64 → MovesBits (λ n. (n * 2 ^ j) % 2 ^ b)
up_moves b j power = record {
  fits = λ n h. let small = mod_below (n * 2 ^ j) (2 ^ b) (pow_pos b) in omega arith;
  source = λ k. elim (cases_lt k b) [
    | inr above ↦ inl (λ n h. bit_at_mod_above (n * 2 ^ j) b k above)
    | inl within ↦ elim (cases_lt k j) [
      | inl low ↦ inl (λ n h. bit_at_mod (n * 2 ^ j) b k within ∙ ap (λ q. bit_at q k) (whole n) ∙ bit_at_cat_low n j 0 k low ∙ bit_at-zero k)
      | inr high ↦ inr (k - j, λ n h. bit_at_mod (n * 2 ^ j) b k within ∙ ap (λ q. bit_at q k) (whole n) ∙ bit_at_cat_high n j 0 k (pow_pos j) high)
    ]
  ];
}
  where
    whole : (n : ℕ) → n * 2 ^ j ≡ n * 2 ^ j + 0
    whole n = omega arith

-- ---- what a width sees, and shifts

pub seen_moves : (w : Width) → MovesBits (seen w)
seen_moves W32 = low_moves 32
seen_moves W64 = stays_moves

pub left_shift_moves : (w : Width) (n : ℕ) → MovesBits (λ x. word_result w Lsh x n)
left_shift_moves W32 n = then_moves (seen W32) _ (seen_moves W32) (up_moves 32 (n % 2 ^ 32 % 32) (omega arith))
left_shift_moves W64 n = up_moves 64 (n % 64) (omega arith)

pub right_shift_moves : (w : Width) (n : ℕ) → MovesBits (λ x. word_result w Rsh x n)
right_shift_moves W32 n = then_moves (seen W32) _ (seen_moves W32) (down_moves (n % 2 ^ 32 % 32))
right_shift_moves W64 n = down_moves (n % 64)

-- ==== byte swaps move bits

-- a bit of a number is one of a byte
bit_of_byte : (n j i : ℕ) → i < 8 → bit_at n (8 * j + i) ≡ bit_at (n / 2 ^ (8 * j) % 2 ^ 8) i
bit_of_byte n j i low = ap (λ q. q % 2) (sym (shr-shr n (8 * j) i)) ∙ sym (bit_at_mod (n / 2 ^ (8 * j)) 8 i low)

-- the bytes of a swapped number, lowest first, are those of the number, highest first
abbrev Reverses : IntWidth → ℕ → Type 0
Reverses w last = (j n : ℕ) → j ≤ last → swap_bytes w n / 2 ^ (8 * j) % 2 ^ 8 ≡ n / 2 ^ (8 * (last - j)) % 2 ^ 8

reverses_16 : Reverses w16 1
reverses_16 (suc zero) n h = omega arith
reverses_16 j n h = omega arith

reverses_32 : Reverses w32 3
reverses_32 (suc (suc (suc zero))) n h = omega arith
reverses_32 j n h = omega arith

reverses_64 : Reverses w64 7
reverses_64 (suc (suc (suc (suc (suc (suc (suc zero))))))) n h = omega arith
reverses_64 j n h = omega arith

-- the bit that a swap takes to a place
swap_source : (w : IntWidth) (last k : ℕ) → Reverses w last → k < 8 * (last + 1) → (n : ℕ) → bit_at (swap_bytes w n) k ≡ bit_at n (8 * (last - k / 8) + k % 8)
swap_source w last k reverses within n =
    let place : k ≡ 8 * (k / 8) + k % 8 = omega arith in
    let small : k % 8 < 8 = omega arith in
    ap (bit_at (swap_bytes w n)) place ∙ bit_of_byte (swap_bytes w n) (k / 8) (k % 8) small
    ∙ ap (λ b. bit_at b (k % 8)) (reverses (k / 8) n (omega arith)) ∙ sym (bit_of_byte n (last - k / 8) (k % 8) small)

swapped_moves_by : (w : IntWidth) (last : ℕ) → Reverses w last → bits w ≡ 8 * (last + 1) → bits w ≤ 64 → ((n : ℕ) → swap_bytes w (wrapped w n) < 2 ^ bits w)
    → 2 ^ bits w ≤ 2 ^ 64 → MovesBits (λ n. swap_bytes w (wrapped w n))
swapped_moves_by w last reverses long narrow fits power = record {
  fits = λ n h. let small = fits n in omega arith;
  source = λ k. elim (cases_lt k (bits w)) [
    | inl within ↦
        let low : 8 * (last - k / 8) + k % 8 < bits w = omega arith in
        inr (8 * (last - k / 8) + k % 8, λ n h. swap_source w last k reverses (omega arith) (wrapped w n) ∙ bit_at_mod n (bits w) (8 * (last - k / 8) + k % 8) low)
    | inr above ↦ inl (λ n h. bit_at_above (swap_bytes w (wrapped w n)) (bits w) k (fits n) above)
  ];
}

pub swap_moves : (kind : SwapKind) (n : SwapBits) → MovesBits (λ x. word_swapped kind n x)
swap_moves ToLittle n = low_moves (bits (swap_width n))
swap_moves kind swapped.B16 = swapped_moves_by w16 1 reverses_16 refl (omega arith) (λ n. word_swapped_fits kind swapped.B16 n) (omega arith)
swap_moves kind swapped.B32 = swapped_moves_by w32 3 reverses_32 refl (omega arith) (λ n. word_swapped_fits kind swapped.B32 n) (omega arith)
swap_moves kind swapped.B64 = swapped_moves_by w64 7 reverses_64 refl (omega arith) (λ n. word_swapped_fits kind swapped.B64 n) (omega arith)

-- ==== signed shifts and sign extensions move bits

-- a part of a width, whose highest bit is its sign
record IsPart (w part : IntWidth) : Type 0 where
  twice : 2 ^ bits part ≡ 2 ^ hbits part + 2 ^ hbits part
  place : bits part ≡ suc (hbits part)
  power : 2 ^ bits part ≤ 2 ^ bits w

-- the signed reading of a number of a part moved down, in the bits of the width
abbrev shifted : IntWidth → IntWidth → ℕ → ℕ → ℕ
shifted w part j a = cast_unsigned w (int_shr (cast_signed part a) j)

module _ (w part : IntWidth) (j : ℕ) (is : IsPart w part) where
  shifted_positive : (a : ℕ) → a < 2 ^ hbits part → shifted w part j a ≡ a / 2 ^ j
  shifted_positive a small = ap (λ z. cast_unsigned w (int_shr z j)) (to_z_pos part a small)

  shifted_negative : (a : ℕ) → 2 ^ hbits part ≤ a → a < 2 ^ bits part → shifted w part j a ≡ bit_not w (bit_not part a / 2 ^ j)
  shifted_negative a large fits =
      let back : 2 ^ bits part - suc (bit_not part a) ≡ a = omega arith in
      ap (λ n. cast_unsigned w (int_shr (cast_signed part n) j)) (sym back) ∙ ap (λ z. cast_unsigned w (int_shr z j)) (to_z-neg part (bit_not part a) (omega arith)) ∙ omega arith

  -- a bit of a number that is negative is one of its complement, turned
  negative_at : (a k : ℕ) → 2 ^ hbits part ≤ a → a < 2 ^ bits part → k < bits w → bit_at (shifted w part j a) k ≡ 1 - bit_at (bit_not part a) (j + k)
  negative_at a k large fits low =
      let small : bit_not part a / 2 ^ j < 2 ^ bits w = lt_of_le_of_lt (div-le_self (bit_not part a) (2 ^ j)) (omega arith) in
      ap (λ n. bit_at n k) (shifted_negative a large fits) ∙ bit_at_not w (bit_not part a / 2 ^ j) k small low ∙ ap (λ q. 1 - q % 2) (shr-shr (bit_not part a) j k)

  shift_inside : (a k : ℕ) → a < 2 ^ bits part → k < bits w → j + k < bits part → bit_at (shifted w part j a) k ≡ bit_at a (j + k)
  shift_inside a k fits low within = elim (cases_lt a (2 ^ hbits part)) [
    | inl small ↦ ap (λ n. bit_at n k) (shifted_positive a small) ∙ ap (λ q. q % 2) (shr-shr a j k)
    | inr large ↦ negative_at a k large fits low ∙ omega (arith, bit_at_not part a (j + k) fits within, bit_at-lt a (j + k))
  ]

  shift_beyond : (a k : ℕ) → a < 2 ^ bits part → k < bits w → bits part ≤ j + k → bit_at (shifted w part j a) k ≡ bit_at a (hbits part)
  shift_beyond a k fits low beyond = elim (cases_lt a (2 ^ hbits part)) [
    | inl small ↦ ap (λ n. bit_at n k) (shifted_positive a small) ∙ ap (λ q. q % 2) (shr-shr a j k) ∙ bit_at_above a (bits part) (j + k) fits beyond
        ∙ sym (bit_at_above a (hbits part) (hbits part) small (omega arith))
    | inr large ↦
        let least : 1 ≤ a / 2 ^ hbits part = le-div 1 a (2 ^ hbits part) (pow_pos (hbits part)) (omega arith) in
        let most : a / 2 ^ hbits part < 2 = div_below a (2 ^ hbits part) 2 (pow_pos (hbits part)) (omega arith) in
        negative_at a k large fits low ∙ omega (arith, bit_at_above (bit_not part a) (bits part) (j + k) (omega arith) beyond)
  ]

  -- the bit that goes to a place
  shift_source : (k : ℕ) → k < bits w → (s : ℕ) × (s < bits part) × ((a : ℕ) → a < 2 ^ bits part → bit_at (shifted w part j a) k ≡ bit_at a s)
  shift_source k low = elim (cases_lt (j + k) (bits part)) [
    | inl within ↦ (j + k, within, λ a fits. shift_inside a k fits low within)
    | inr beyond ↦ let place = is.place in (hbits part, omega arith, λ a fits. shift_beyond a k fits low beyond)
  ]

shifted_moves : (w : Width) (part : IntWidth) (j : ℕ) (f : ℕ → ℕ) → IsPart (int_width w) part → ((x : ℕ) → x < 2 ^ 64 → f x < 2 ^ bits (int_width w))
    → ((x : ℕ) → x < 2 ^ 64 → f x ≡ shifted (int_width w) part j (x % 2 ^ bits part)) → MovesBits f
shifted_moves w part j f is fits same = record {
  fits = λ x h. word_in_width w (f x) (fits x h);
  source = λ k. elim (cases_lt k (bits (int_width w))) [
    | inl within ↦ let s = shift_source (int_width w) part j is k within in
        inr (s.0, λ x h. ap (λ n. bit_at n k) (same x h) ∙ s.2 (x % 2 ^ bits part) (mod_below x (2 ^ bits part) (pow_pos (bits part))) ∙ bit_at_mod x (bits part) s.0 s.1)
    | inr above ↦ inl (λ x h. bit_at_above (f x) (bits (int_width w)) k (fits x h) above)
  ];
}

pub signed_shift_moves : (w : Width) (n : ℕ) → n < 2 ^ 64 → MovesBits (λ x. word_result w Arsh x n)
signed_shift_moves W32 n word = shifted_moves W32 w32 (n % 2 ^ 32 % 32) _ (record { twice = refl; place = refl; power = omega arith }) (λ x h. word_result_fits W32 Arsh x n h word) (λ x h. refl)
signed_shift_moves W64 n word = shifted_moves W64 w64 (n % 64) _ (record { twice = refl; place = refl; power = omega arith }) (λ x h. word_result_fits W64 Arsh x n h word)
    (λ x h. ap (shifted w64 w64 (n % 64)) (sym (mod-eq_of_lt h)))

-- ---- extensions

is_part : (w : Width) (n : ExtendBits) → IsPart (int_width w) (extend_width n)
is_part W32 extended.B8 = record { twice = refl; place = refl; power = omega arith }
is_part W64 extended.B8 = record { twice = refl; place = refl; power = omega arith }
is_part w n = record { twice = refl; place = refl; power = omega arith }

not_moved : (z : ℤ) → z ≡ int_shr z 0
not_moved (pos n) = let same : n ≡ n / 1 = omega arith in ap pos same
not_moved (negsuc n) = let same : n ≡ n / 1 = omega arith in ap negsuc same

pub extension_moves : (w : Width) (n : ExtendBits) → MovesBits (λ x. word_extended w n x)
extension_moves w n = shifted_moves w (extend_width n) 0 _ (is_part w n) (λ x h. word_extended_fits w n x) (λ x h. ap (cast_unsigned (int_width w)) (not_moved _))

-- ==== all of these, by their operation

abbrev pub is_shift : BinOp → Bool
is_shift Lsh = true
is_shift Rsh = true
is_shift Arsh = true
is_shift op = false

pub shift_moves : (op : BinOp) → is_shift op ≡ true → (w : Width) → MovesLeft op w
shift_moves Lsh is w = λ n word. left_shift_moves w n
shift_moves Rsh is w = λ n word. right_shift_moves w n
shift_moves Arsh is w = signed_shift_moves w
shift_moves op is w = absurd cc

-- a shift is exact where its amount is known
pub known_amount : (op : BinOp) → is_shift op ≡ true → (b : KnownBits) → IsTrue (is_exact op b) → b.mask ≡ 0
known_amount Lsh is b exact = (Decides-eqb b.mask 0).0 exact
known_amount op is b exact = grind (arith, nat_tests)

-- so do byte swaps and sign extensions
pub image_moves : (op : UnOp) → op ≢ Neg → (w : Width) → MovesBits (unary_result op w)
image_moves Neg other w = absurd (other refl)
image_moves (Swap kind n) other w = swap_moves kind n
image_moves (Extend n) other w = extension_moves w n
