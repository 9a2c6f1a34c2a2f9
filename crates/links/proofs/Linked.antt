-- Registers whose number is another's plus a constant or a constant less another's.
use Rattle.std.proofs.Common.{◌≡◌, ◌≢◌, ℕ, ◌+◌, ◌-◌, ◌^◌, ◌<◌, ◌==◌, ◌||◌, ◌%◌, bit_and, if◌then◌else◌, Bool, true, false, ℤ, List, Option, Some, None, get_or, set, length, refl, sym, ap, ◌∙◌, subst, arith, inl, inr, ◌⊎◌}
use Rattle.links.proofs.Names.{Decides-eqb, set-get_or, cast_unsigned, cases_eq, get_or-set_other, get_or-set_same, BinOp, Add, Sub}
use Rattle.links.proofs.Names.{Width, W32, W64, RegNo, Value, Number, reg_number, Scalar, InScalar-words, shows_one, InScalar, word_holds, word_result, wrapped, Bits, Lowest}
use Rattle.links.proofs.Names.{Link, Links, Sum, Difference, IsDerived, IsTraced, IsEqualKept, AreLeft, AreLinked, AreLinksJoined, AreMade, AreRelated, IsLinkJoin, LinkHolds, LinksHold}
use Rattle.links.proofs.Names.{bits_after, lesser, link_at, link_left, plus_after, Cell, Kind, Block, Stack, IsKindJoin, IsBlockJoin, block_at, block_cells}
use Rattle.links.specs.Links.{AreAlike, AreHomesLeft, HomeHolds, bits_masked, is_equal, is_whole, link_moved, mask_of, traced, home_at, bits_moved, home_left, home_unless, made_at, moved_by, moved_from, plus_moved}
use Rattle.links.proofs.Names.{Action, option_or}
use Rattle.links.specs.Names.{◌>>=◌}
use Rattle.reg_kind.specs.declared.reg.Reg.TheVariants as kind
use Rattle.stack_state.specs.declared.block.Block.TheVariants as block
use Rattle.stack_state.specs.Joins.{block_of}
use Rattle.stack_state.specs.Blocks.{IsNotWhole}
use Rattle.std.specs.Int.{w64}
use Rattle.insn.specs.declared.operation.Cond.TheVariants.{Eq}
use Rattle.range.specs.Sets.{IsWithin}
use Rattle.scalar.specs.Narrowed.{AreNarrowed}
use Rattle.stack_state.proofs.Written.{DoneTo, next_done}
use Rattle.links.specs.declared.link.Relation.{Relation}
use Rattle.links.specs.declared.link.Bits.TheVariants.{Masked, Shifted}
use Rattle.insn.specs.declared.operation.BinOp.TheVariants.{And}
use Rattle.links.specs.Narrowed.{IsMixed}
use Rattle.scalar.specs.Members.{ShowsOne}
use Rattle.std.proofs.lemmas.Nat.{and_assoc, and_comm, and_mask, and_mod, and-not}
use Rattle.std.specs.Int.Bits.{and_self}
use Rattle.std.specs.Int.{bit_not}
use Rattle.links.proofs.Names.{AreNumbersRefined, AreValuesLinked, IsLinkRefined, RegFits}

pub reg_below : (r : RegNo) → reg_number r < 11
reg_below r = grind (arith)

pub bind_some : {A B : Type 0} (o : Option A) (f : A → Option B) (y : B) → (o >>= f) ≡ Some y → (x : A) × (o ≡ Some x) × (f x ≡ Some y)
bind_some None f y e = absurd cc
bind_some (Some x) f y e = (x, refl, e)

-- ---- numbers

-- a constant is added to a number that is linked
added : (r : Relation) (w v : Width) (p c a b : ℕ) → AreRelated r (Lowest v) p a b → AreRelated r (Lowest (lesser w v)) (wrapped w64 (p + c)) a (word_result w Add b c)
added r w v p c a b h1 = grind (arith)

-- ---- numbers that are alike inside a mask

-- and so inside one of fewer bits
fewer : (x y m d : ℕ) → AreAlike m x y → AreAlike (bit_and m d) x y
fewer x y m d e = sym (and_assoc d (x % 2 ^ 16) m) ∙ ap (λ (z : ℕ). bit_and z d) e ∙ and_assoc d (y % 2 ^ 16) m

same_alike : (x y m : ℕ) → x % 2 ^ 16 ≡ y % 2 ^ 16 → AreAlike m x y
same_alike x y m e = ap (λ (z : ℕ). bit_and z m) e

absorbed : (d m : ℕ) → bit_and d (bit_and m d) ≡ bit_and m d
absorbed d m = ap (bit_and d) (and_comm m d) ∙ sym (and_assoc m d d) ∙ ap (λ (y : ℕ). bit_and y m) (and_self d) ∙ and_comm d m

-- a number whose bits outside a constant's are cleared
cleared_low : (w : Width) (x c : ℕ) → word_result w And x c % 2 ^ 16 ≡ bit_and (x % 2 ^ 16) (c % 2 ^ 16)
cleared_low W64 x c = and_mod x c 16
cleared_low W32 x c =
    let left : x % 2 ^ 32 % 2 ^ 16 ≡ x % 2 ^ 16 = omega arith in
    let right : c % 2 ^ 32 % 2 ^ 16 ≡ c % 2 ^ 16 = omega arith in
    and_mod (x % 2 ^ 32) (c % 2 ^ 32) 16 ∙ ap (λ (y : ℕ). bit_and y (c % 2 ^ 32 % 2 ^ 16)) left ∙ ap (bit_and (x % 2 ^ 16)) right

cleared_alike : (w : Width) (x c m : ℕ) → AreAlike (bit_and m (c % 2 ^ 16)) (word_result w And x c) x
cleared_alike w x c m =
    ap (λ (y : ℕ). bit_and y (bit_and m (c % 2 ^ 16))) (cleared_low w x c) ∙ and_assoc (bit_and m (c % 2 ^ 16)) (x % 2 ^ 16) (c % 2 ^ 16)
    ∙ ap (bit_and (x % 2 ^ 16)) (absorbed (c % 2 ^ 16) m)

-- numbers whose lowest bytes are the same are alike inside masks of one byte
byte_alike : (x y m d : ℕ) → d ≡ 255 → x % 2 ^ 8 ≡ y % 2 ^ 8 → AreAlike (bit_and m d) x y
byte_alike x y m d is e =
    let left : x % 2 ^ 16 % 2 ^ 8 ≡ x % 2 ^ 8 = omega arith in
    let right : y % 2 ^ 16 % 2 ^ 8 ≡ y % 2 ^ 8 = omega arith in
    let x_is : bit_and (x % 2 ^ 16) d ≡ x % 2 ^ 8 = ap (bit_and (x % 2 ^ 16)) is ∙ and_mask (x % 2 ^ 16) 8 ∙ left in
    let y_is : bit_and (y % 2 ^ 16) d ≡ y % 2 ^ 8 = ap (bit_and (y % 2 ^ 16)) is ∙ and_mask (y % 2 ^ 16) 8 ∙ right in
    ap (bit_and (x % 2 ^ 16)) (and_comm m d) ∙ sym (and_assoc m (x % 2 ^ 16) d) ∙ ap (λ (z : ℕ). bit_and z m) (x_is ∙ e ∙ sym y_is) ∙ and_assoc m (y % 2 ^ 16) d
    ∙ ap (bit_and (y % 2 ^ 16)) (and_comm d m)

-- where a mask is a byte or two, the lowest bits are as they were
cleared_byte : (w : Width) (x c : ℕ) → c % 2 ^ 16 ≡ 255 → word_result w And x c % 2 ^ 8 ≡ x % 2 ^ 8
cleared_byte w x c is =
    let low : word_result w And x c % 2 ^ 16 ≡ x % 2 ^ 16 % 2 ^ 8 = cleared_low w x c ∙ ap (bit_and (x % 2 ^ 16)) is ∙ and_mask (x % 2 ^ 16) 8 in
    omega (arith, low)

cleared_pair : (w : Width) (x c : ℕ) → c % 2 ^ 16 ≡ 65535 → word_result w And x c % 2 ^ 16 ≡ x % 2 ^ 16
cleared_pair w x c is =
    let low : word_result w And x c % 2 ^ 16 ≡ x % 2 ^ 16 % 2 ^ 16 = cleared_low w x c ∙ ap (bit_and (x % 2 ^ 16)) is ∙ and_mask (x % 2 ^ 16) 16 in
    omega (arith, low)

traced_byte : (r : Relation) (p x y : ℕ) → x % 2 ^ 8 ≡ y % 2 ^ 8 → traced r p x % 2 ^ 8 ≡ traced r p y % 2 ^ 8
traced_byte Sum p x y e = omega (arith, e)
traced_byte Difference p x y e = omega (arith, e)

traced_pair : (r : Relation) (p x y : ℕ) → x % 2 ^ 16 ≡ y % 2 ^ 16 → traced r p x % 2 ^ 16 ≡ traced r p y % 2 ^ 16
traced_pair Sum p x y e = omega (arith, e)
traced_pair Difference p x y e = omega (arith, e)

whole_cases : (m : ℕ) → is_whole m ≡ true → (m ≡ 255) ⊎ (m ≡ 65535)
whole_cases m h = grind (arith)

-- a number is traced to one that is alike, once its bits outside a mask are cleared: where that is whole, or it is traced to itself
cleared_whole : (r : Relation) (w : Width) (p b c m : ℕ) → is_whole (c % 2 ^ 16) ≡ true → AreAlike (bit_and m (c % 2 ^ 16)) (traced r p (word_result w And b c)) (traced r p b)
cleared_whole r w p b c m whole = elim (whole_cases (c % 2 ^ 16) whole) [
  | inl is ↦ byte_alike (traced r p (word_result w And b c)) (traced r p b) m (c % 2 ^ 16) is (traced_byte r p (word_result w And b c) b (cleared_byte w b c is))
  | inr is ↦ same_alike (traced r p (word_result w And b c)) (traced r p b) (bit_and m (c % 2 ^ 16)) (traced_pair r p (word_result w And b c) b (cleared_pair w b c is))
]

traced_equal : (p b : ℕ) → p ≡ 0 → traced Sum p b % 2 ^ 16 ≡ b % 2 ^ 16
traced_equal p b zero = omega (arith, zero)

is_zero : (p : ℕ) → is_equal Sum p ≡ true → p ≡ 0
is_zero p h = grind (arith)

cleared_equal : (r : Relation) (w : Width) (p b c m : ℕ) → is_equal r p ≡ true → AreAlike (bit_and m (c % 2 ^ 16)) (traced r p (word_result w And b c)) (traced r p b)
cleared_equal Sum w p b c m equal =
    let zero = is_zero p equal in
    let n = bit_and m (c % 2 ^ 16) in
    same_alike (traced Sum p (word_result w And b c)) (word_result w And b c) n (traced_equal p (word_result w And b c) zero) ∙ cleared_alike w b c m
    ∙ same_alike b (traced Sum p b) n (sym (traced_equal p b zero))
cleared_equal Difference w p b c m equal = absurd cc

cleared_there : (r : Relation) (w : Width) (p b c m : ℕ) → (is_equal r p || is_whole (c % 2 ^ 16)) ≡ true → AreAlike (bit_and m (c % 2 ^ 16)) (traced r p (word_result w And b c)) (traced r p b)
cleared_there r w p b c m which = by (is_equal r p) refl which where
  by : (t : Bool) → is_equal r p ≡ t → (t || is_whole (c % 2 ^ 16)) ≡ true → AreAlike (bit_and m (c % 2 ^ 16)) (traced r p (word_result w And b c)) (traced r p b)
  by true e h = cleared_equal r w p b c m e
  by false e h = cleared_whole r w p b c m h

-- a number of which a link tells the lowest bits is traced to one that has the two bytes of the other
lowest_low : (r : Relation) (w : Width) (p a b : ℕ) → AreRelated r (Lowest w) p a b → traced r p b % 2 ^ 16 ≡ a % 2 ^ 16
lowest_low Sum W64 p a b h = omega (arith, h)
lowest_low Sum W32 p a b h = omega (arith, h)
lowest_low Difference W64 p a b h = omega (arith, h)
lowest_low Difference W32 p a b h = omega (arith, h)

masked_by : (r : Relation) (m p a b : ℕ) → AreAlike m (traced r p b) a → AreRelated r (Masked m) p a b
masked_by Sum m p a b h = h
masked_by Difference m p a b h = h

pub masked_is : (r : Relation) (m p a b : ℕ) → AreRelated r (Masked m) p a b → AreAlike m (traced r p b) a
masked_is Sum m p a b h = h
masked_is Difference m p a b h = h

-- what a link tells of fewer bits: as much as is told once the others are cleared in a register
record IsMasked (r : Relation) (d p a b : ℕ) (after : Bits) : Type 0 where
  own : ℕ
  is : after ≡ Masked (bit_and own d)
  alike : AreAlike (bit_and own d) (traced r p b) a

bits_are_masked : (r : Relation) (d p a b : ℕ) (bits after : Bits) → bits_masked d bits ≡ Some after → AreRelated r bits p a b → IsMasked r d p a b after
bits_are_masked r d p a b (Lowest w) after e h =
    let is : after ≡ Masked d = cc in
    record { own = d; is = is ∙ sym (ap Masked (and_self d)); alike = same_alike (traced r p b) a (bit_and d d) (lowest_low r w p a b h) }
bits_are_masked r d p a b (Masked m) after e h = record { own = m; is = cc; alike = fewer (traced r p b) a m d (masked_is r m p a b h) }
bits_are_masked r d p a b Shifted after e h = absurd cc

-- bits outside a constant's are cleared in the other number
other_cleared : (r : Relation) (w : Width) (imm : ℤ) (bits after : Bits) (p a b : ℕ) → bits_masked (mask_of imm) bits ≡ Some after → AreRelated r bits p a b
    → AreRelated r after p (word_result w And a (cast_unsigned w64 imm)) b
other_cleared r w imm bits after p a b e h =
    let m = bits_are_masked r (mask_of imm) p a b bits after e h in
    rw m.is (masked_by r (bit_and m.own (mask_of imm)) p (word_result w And a (cast_unsigned w64 imm)) b (m.alike ∙ sym (cleared_alike w a (cast_unsigned w64 imm) m.own)))

-- or in the link's own
own_cleared : (r : Relation) (w : Width) (imm : ℤ) (bits after : Bits) (p a b : ℕ) → (is_equal r p || is_whole (mask_of imm)) ≡ true → bits_masked (mask_of imm) bits ≡ Some after → AreRelated r bits p a b
    → AreRelated r after p a (word_result w And b (cast_unsigned w64 imm))
own_cleared r w imm bits after p a b which e h =
    let m = bits_are_masked r (mask_of imm) p a b bits after e h in
    rw m.is (masked_by r (bit_and m.own (mask_of imm)) p a (word_result w And b (cast_unsigned w64 imm)) (cleared_there r w p b (cast_unsigned w64 imm) m.own which ∙ m.alike))

after_and : (r : Relation) (w : Width) (imm : ℤ) (bits after : Bits) (p a b : ℕ) → bits_after w And imm (is_equal r p) bits ≡ Some after → AreRelated r bits p a b
    → AreRelated r after p a (word_result w And b (cast_unsigned w64 imm))
after_and r w imm bits after p a b e h = by (is_equal r p || is_whole (mask_of imm)) refl e where
  by : (t : Bool) → (is_equal r p || is_whole (mask_of imm)) ≡ t → (if t then bits_masked (mask_of imm) bits else None) ≡ Some after → AreRelated r after p a (word_result w And b (cast_unsigned w64 imm))
  by true q e = own_cleared r w imm bits after p a b q e h
  by false q e = absurd cc

-- ---- operations on a link's register

sum_low : (r : Relation) (w : Width) (p b c : ℕ) → traced r (wrapped w64 (p + c)) (word_result w Add b c) % 2 ^ 16 ≡ traced r p b % 2 ^ 16
sum_low Sum W64 p b c = omega arith
sum_low Sum W32 p b c = omega arith
sum_low Difference W64 p b c = omega arith
sum_low Difference W32 p b c = omega arith

pub related_after : (r : Relation) (w : Width) (op : BinOp) (imm : ℤ) (bits after : Bits) (p a b : ℕ) → b < 2 ^ 64 → bits_after w op imm (is_equal r p) bits ≡ Some after → AreRelated r bits p a b
    → AreRelated r after (plus_after op imm p) a (word_result w op b (cast_unsigned w64 imm))
related_after r w And imm bits after p a b h1 h2 h3 = after_and r w imm bits after p a b h2 h3
related_after r w Add imm (Masked m) after p a b h1 h2 h3 =
    let c = cast_unsigned w64 imm in
    let is : after ≡ Masked m = cc in
    rw is (masked_by r m (wrapped w64 (p + c)) a (word_result w Add b c)
    (same_alike (traced r (wrapped w64 (p + c)) (word_result w Add b c)) (traced r p b) m (sum_low r w p b c) ∙ masked_is r m p a b h3))
related_after r w op imm bits after p a b h1 h2 h3 = grind (arith)

-- a number is taken from a constant
pub is_less : (w : Width) (c a : ℕ) → a < 2 ^ 64 → AreRelated Difference (Lowest w) c a (word_result w Sub c a)
is_less w c a h1 = grind (arith)

-- a constant is added to the other number
added_other : (r : Relation) (w v : Width) (p c a b : ℕ) → c < 2 ^ 64 → AreRelated r (Lowest v) p a b → AreRelated r (Lowest (lesser w v)) (plus_moved r c p) (word_result w Add a c) b
added_other r w v p c a b h1 h2 = grind (arith)

added_shifted : (r : Relation) (w : Width) (p c a b : ℕ) → c < 2 ^ 64 → AreRelated r Shifted p a b → AreRelated r Shifted (plus_moved r c p) (word_result w Add a c) b
added_shifted r w p c a b h1 h2 = grind (arith)

moved_byte : (r : Relation) (w : Width) (p c a b : ℕ) → c < 2 ^ 64 → traced r p b % 2 ^ 8 ≡ a % 2 ^ 8 → traced r (plus_moved r c p) b % 2 ^ 8 ≡ word_result w Add a c % 2 ^ 8
moved_byte Sum W64 p c a b lt h = omega (arith, lt, h)
moved_byte Sum W32 p c a b lt h = omega (arith, lt, h)
moved_byte Difference W64 p c a b lt h = omega (arith, lt, h)
moved_byte Difference W32 p c a b lt h = omega (arith, lt, h)

moved_pair : (r : Relation) (w : Width) (p c a b : ℕ) → c < 2 ^ 64 → traced r p b % 2 ^ 16 ≡ a % 2 ^ 16 → traced r (plus_moved r c p) b % 2 ^ 16 ≡ word_result w Add a c % 2 ^ 16
moved_pair Sum W64 p c a b lt h = omega (arith, lt, h)
moved_pair Sum W32 p c a b lt h = omega (arith, lt, h)
moved_pair Difference W64 p c a b lt h = omega (arith, lt, h)
moved_pair Difference W32 p c a b lt h = omega (arith, lt, h)

-- those that are alike inside a byte, or two, have the same
alike_byte : (x y : ℕ) → AreAlike 255 x y → x % 2 ^ 8 ≡ y % 2 ^ 8
alike_byte x y e =
    let same : x % 2 ^ 16 % 2 ^ 8 ≡ y % 2 ^ 16 % 2 ^ 8 = sym (and_mask (x % 2 ^ 16) 8) ∙ e ∙ and_mask (y % 2 ^ 16) 8 in
    omega (arith, same)

alike_pair : (x y : ℕ) → AreAlike 65535 x y → x % 2 ^ 16 ≡ y % 2 ^ 16
alike_pair x y e =
    let same : x % 2 ^ 16 % 2 ^ 16 ≡ y % 2 ^ 16 % 2 ^ 16 = sym (and_mask (x % 2 ^ 16) 16) ∙ e ∙ and_mask (y % 2 ^ 16) 16 in
    omega (arith, same)

whole_moved : (r : Relation) (w : Width) (m p c a b : ℕ) → c < 2 ^ 64 → is_whole m ≡ true → AreAlike m (traced r p b) a → AreAlike m (traced r (plus_moved r c p) b) (word_result w Add a c)
whole_moved r w m p c a b lt whole h = elim (whole_cases m whole) [
  | inl is ↦
      let was : AreAlike 255 (traced r p b) a = subst (λ (d : ℕ). AreAlike d (traced r p b) a) is h in
      let now = moved_byte r w p c a b lt (alike_byte (traced r p b) a was) in
      rw is (subst (λ (d : ℕ). AreAlike d (traced r (plus_moved r c p) b) (word_result w Add a c)) (and_self 255) (byte_alike (traced r (plus_moved r c p) b) (word_result w Add a c) 255 255 refl now))
  | inr is ↦
      let was : AreAlike 65535 (traced r p b) a = subst (λ (d : ℕ). AreAlike d (traced r p b) a) is h in
      same_alike (traced r (plus_moved r c p) b) (word_result w Add a c) m (moved_pair r w p c a b lt (alike_pair (traced r p b) a was))
]

moved_by_sum : (r : Relation) (w : Width) (bits after : Bits) (p c a b : ℕ) → c < 2 ^ 64 → bits_moved w bits ≡ Some after → AreRelated r bits p a b → AreRelated r after (plus_moved r c p) (word_result w Add a c) b
moved_by_sum r w (Lowest v) after p c a b lt e h = let is : after ≡ Lowest (lesser w v) = cc in rw is (added_other r w v p c a b lt h)
moved_by_sum r w Shifted after p c a b lt e h = let is : after ≡ Shifted = cc in rw is (added_shifted r w p c a b lt h)
moved_by_sum r w (Masked m) after p c a b lt e h = by (is_whole m) refl e where
  by : (t : Bool) → is_whole m ≡ t → (if t then Some (Masked m) else None) ≡ Some after → AreRelated r after (plus_moved r c p) (word_result w Add a c) b
  by true q e = let is : after ≡ Masked m = cc in rw is (masked_by r m (plus_moved r c p) (word_result w Add a c) b (whole_moved r w m p c a b lt q (masked_is r m p a b h)))
  by false q e = absurd cc

-- a link that is moved is one with the same register
pub moved_of : (w : Width) (op : BinOp) (imm : ℤ) (was now : Link) → link_moved w op imm was ≡ Some now → now.of ≡ was.of
moved_of w Add imm was now e =
    let made = bind_some (bits_moved w was.bits) (λ (bits : Bits). Some (record was { plus = plus_moved was.relation (cast_unsigned w64 imm) was.plus; bits = bits })) now e in
    let is : now ≡ record was { plus = plus_moved was.relation (cast_unsigned w64 imm) was.plus; bits = made.0 } = (let s = made.2 in cc) in
    ap (λ (l : Link). l.of) is
moved_of w And imm was now e =
    let made = bind_some (bits_masked (mask_of imm) was.bits) (λ (bits : Bits). Some (record was { bits = bits })) now e in
    let is : now ≡ record was { bits = made.0 } = (let s = made.2 in cc) in
    ap (λ (l : Link). l.of) is
moved_of w op imm was now e = absurd cc

-- the other number is changed by a constant
pub related_moved : (w : Width) (op : BinOp) (imm : ℤ) (was now : Link) (a b : ℕ) → cast_unsigned w64 imm < 2 ^ 64 → link_moved w op imm was ≡ Some now → AreLinked was a b → AreLinked now (word_result w op a (cast_unsigned w64 imm)) b
related_moved w Add imm was now a b lt e h =
    let made = bind_some (bits_moved w was.bits) (λ (bits : Bits). Some (record was { plus = plus_moved was.relation (cast_unsigned w64 imm) was.plus; bits = bits })) now e in
    let is : now ≡ record was { plus = plus_moved was.relation (cast_unsigned w64 imm) was.plus; bits = made.0 } = (let s = made.2 in cc) in
    rw is (moved_by_sum was.relation w was.bits made.0 was.plus (cast_unsigned w64 imm) a b lt made.1 h)
related_moved w And imm was now a b lt e h =
    let made = bind_some (bits_masked (mask_of imm) was.bits) (λ (bits : Bits). Some (record was { bits = bits })) now e in
    let is : now ≡ record was { bits = made.0 } = (let s = made.2 in cc) in
    rw is (other_cleared was.relation w imm was.bits made.0 was.plus a b made.1 h)
related_moved w op imm was now a b lt e h = absurd cc

same_is : (a b : ℕ) → a ≡ b → (a == b) ≡ true
same_is a b e = rw e (grind (arith))

-- a number that is linked is what is derived from the other one, and that is what is traced from it
abbrev pub derived_word : Relation → Width → ℕ → ℕ → ℕ
derived_word Sum w a p = word_result w Add a p
derived_word Difference w a p = word_result w Sub p a

abbrev pub traced_word : Relation → Width → ℕ → ℕ → ℕ
traced_word Sum w b p = word_result w Sub b p
traced_word Difference w b p = word_result w Sub p b

linked_derived : (r : Relation) (w : Width) (p a b : ℕ) → a < 2 ^ 64 → b < 2 ^ 64 → p < 2 ^ 64 → AreRelated r (Lowest w) p a b → word_holds w Eq b (derived_word r w a p) ≡ true
linked_derived r w p a b h1 h2 h3 h4 = grind (arith)

linked_traced : (r : Relation) (w : Width) (p a b : ℕ) → a < 2 ^ 64 → b < 2 ^ 64 → p < 2 ^ 64 → AreRelated r (Lowest w) p a b → word_holds w Eq a (traced_word r w b p) ≡ true
linked_traced r w p a b h1 h2 h3 h4 = grind (arith)

-- ---- links that are left

pub links_same : (x : Bool) (a b : Links) (stack : Stack) (registers : List (Option Value)) (cells : List Cell) → b ≡ a → LinksHold x a stack registers cells → LinksHold x b stack registers cells
links_same x a b stack registers cells e h = rw e h

pub no_links : (x : Bool) (links : Links) (stack : Stack) (registers : List (Option Value)) (cells : List Cell) → ((k : ℕ) → (link_at links k ≡ None) × (home_at links k ≡ None)) → LinksHold x links stack registers cells
no_links true links stack registers cells h = tt
no_links false links stack registers cells h = λ k lt. (
  subst (λ (o : Option Link). LinkHolds o k registers) (sym (h k).0) tt,
  subst (λ (o : Option ℕ). HomeHolds o k stack registers cells) (sym (h k).1) tt,
)

apart : (n k m : ℕ) → (n == k || n == m) ≡ false → (k ≢ n) × (m ≢ n)
apart n k m e = (λ q. grind (arith), λ q. grind (arith))

left_holds : (written : RegNo) (k : ℕ) (o : Option Link) (registers : List (Option Value)) (v : Option Value) → LinkHolds o k registers → LinkHolds (link_left written k o) k (set registers (reg_number written) v)
left_holds written k None registers v h = tt
left_holds written k (Some link) registers v h = by (reg_number written == k || reg_number written == reg_number link.of) refl where
  by : (t : Bool) → (reg_number written == k || reg_number written == reg_number link.of) ≡ t → LinkHolds (if t then None else Some link) k (set registers (reg_number written) v)
  by true e = tt
  by false e =
      let other = apart (reg_number written) k (reg_number link.of) e in
      λ a b p q. h a b (sym (get_or-set_other registers (reg_number written) (reg_number link.of) v None other.1) ∙ p) (sym (get_or-set_other registers (reg_number written) k v None other.0) ∙ q)

pub not_same : (n k : ℕ) → (n == k) ≡ false → k ≢ n
not_same n k e = λ q. grind (arith)

pub are_same : (n k : ℕ) → (n == k) ≡ true → k ≡ n
are_same n k e = grind (arith)

home_holds_left : (written : RegNo) (k : ℕ) (o : Option ℕ) (stack : Stack) (registers : List (Option Value)) (cells : List Cell) (v : Option Value) → HomeHolds o k stack registers cells
    → HomeHolds (home_left written k o) k stack (set registers (reg_number written) v) cells
home_holds_left written k o stack registers cells v h = by (reg_number written == k) refl o h where
  by : (t : Bool) → (reg_number written == k) ≡ t → (o : Option ℕ) → HomeHolds o k stack registers cells → HomeHolds (if t then None else o) k stack (set registers (reg_number written) v) cells
  by true e o h = tt
  by false e None h = tt
  by false e (Some b) h = λ a n lt there is. h a n lt there (sym (get_or-set_other registers (reg_number written) k v None (not_same (reg_number written) k e)) ∙ is)

pub all_left : (x : Bool) (written : RegNo) (a b : Links) (stack : Stack) (registers : List (Option Value)) (cells : List Cell) (v : Option Value) → AreLeft written a b → LinksHold x a stack registers cells
    → LinksHold x b stack (set registers (reg_number written) v) cells
all_left true written a b stack registers cells v left h = tt
all_left false written a b stack registers cells v left h = λ k lt. (
  subst (λ (o : Option Link). LinkHolds o k (set registers (reg_number written) v)) (sym (left k lt).0) (left_holds written k (link_at a k) registers v (h k lt).0),
  subst (λ (o : Option ℕ). HomeHolds o k stack (set registers (reg_number written) v) cells) (sym (left k lt).1) (home_holds_left written k (home_at a k) stack registers cells v (h k lt).1),
)

home_lost : (written : RegNo) (homes : List (Option ℕ)) (k : ℕ) → reg_number written < length homes → get_or (set homes (reg_number written) None) k None ≡ home_left written k (get_or homes k None)
home_lost written homes k inside =
    let told = Decides-eqb (reg_number written) k in
    let same = get_or-set_same homes (reg_number written) None None inside in
    let other = get_or-set_other homes (reg_number written) k None None in
    grind (arith, told, same, other)

no_home : (written : RegNo) (k : ℕ) → home_left written k None ≡ None
no_home written k = grind (arith)

-- the links of a register that is written are lost, where there may be some, and where there are none
pub links_lost : (written : RegNo) (a b : Links) → reg_number written < length a.homes → a.any ≡ true → b.any ≡ a.any → b.homes ≡ a.homes → ((k : ℕ) → k < 11 → get_or b.each k None ≡ link_left written k (get_or a.each k None))
    → AreLeft written a (record { any = b.any; each = b.each; homes = set b.homes (reg_number written) None })
links_lost written a b inside any same homes each = λ k lt. rw (same, any) (each k lt, rw homes (home_lost written a.homes k inside))

pub none_lost : (written : RegNo) (a : Links) → a.any ≡ false → AreLeft written a a
none_lost written a none = λ k lt. rw none (refl, sym (no_home written k))

-- ---- homes

-- a home holds of other cells, if a number that stands whole there then has stood there before, and those cells are as they were
pub home_kept : (o : Option ℕ) (k : ℕ) (x z : Stack) (registers : List (Option Value)) (old new : List Cell)
    → ((b : ℕ) (s : Scalar) → b < 64 → o ≡ Some b → block_at z b ≡ block.Whole (kind.Number s) → ((p : Scalar) × (block_at x b ≡ block.Whole (kind.Number p))) × (block_cells new b ≡ block_cells old b))
    → HomeHolds o k x registers old → HomeHolds o k z registers new
home_kept None k x z registers old new kept h = tt
home_kept (Some b) k x z registers old new kept h = λ s n lt e is. (let w = kept b s lt refl e in w.1 ∙ h w.0.0 n lt w.0.1 is)

-- where a block is stored to, the homes that are another one hold
home_else : (b : ℕ) (o : Option ℕ) (home : ℕ) → home_unless b o ≡ Some home → (o ≡ Some home) × (home ≢ b)
home_else b None home e = absurd cc
home_else b (Some was) home e = let told = Decides-eqb was b in (grind (arith, told), λ q. grind (arith, told))

home_stays : (b k : ℕ) (o : Option ℕ) (x z : Stack) (registers : List (Option Value)) (old new : List Cell)
    → ((c : ℕ) (s : Scalar) → c < 64 → c ≢ b → block_at z c ≡ block.Whole (kind.Number s) → (block_at x c ≡ block.Whole (kind.Number s)) × (block_cells new c ≡ block_cells old c))
    → HomeHolds o k x registers old → HomeHolds (home_unless b o) k z registers new
home_stays b k o x z registers old new kept h = by (home_unless b o) refl where
  by : (u : Option ℕ) → home_unless b o ≡ u → HomeHolds u k z registers new
  by None e = tt
  by (Some c) e =
      let is = home_else b o c e in
      let was : HomeHolds (Some c) k x registers old = subst (λ (u : Option ℕ). HomeHolds u k x registers old) is.0 h in
      home_kept (Some c) k x z registers old new (λ d s lt q there. (let same : c ≡ d = cc in let w = kept d s lt (λ q. is.1 (same ∙ q)) there in ((s, w.0), w.1))) was

pub homes_left : (b : ℕ) (a c : Links) (x z : Stack) (registers : List (Option Value)) (old new : List Cell) → AreHomesLeft b a c
    → ((d : ℕ) (s : Scalar) → d < 64 → d ≢ b → block_at z d ≡ block.Whole (kind.Number s) → (block_at x d ≡ block.Whole (kind.Number s)) × (block_cells new d ≡ block_cells old d))
    → LinksHold false a x registers old → LinksHold false c z registers new
homes_left b a c x z registers old new left kept h = λ k lt. (
  subst (λ (o : Option Link). LinkHolds o k registers) (sym (left k lt).0) (h k lt).0,
  subst (λ (o : Option ℕ). HomeHolds o k z registers new) (sym (left k lt).1) (home_stays b k (home_at a k) x z registers old new kept (h k lt).1),
)

pub homes_lost : (b : ℕ) (a c : Links) → a.any ≡ true → c.any ≡ a.any → c.each ≡ a.each → ((k : ℕ) → k < 11 → get_or c.homes k None ≡ home_unless b (get_or a.homes k None)) → AreHomesLeft b a c
homes_lost b a c any same each homes = λ k lt. rw (same, any) (rw each refl, homes k lt)

pub no_homes_lost : (b : ℕ) (a : Links) → a.any ≡ false → AreHomesLeft b a a
no_homes_lost b a none = λ k lt. rw none (refl, refl)

-- ---- joins

link_joined : (a b c : Option Link) (k : ℕ) (registers : List (Option Value)) → IsLinkJoin a b c → LinkHolds a k registers ⊎ LinkHolds b k registers → LinkHolds c k registers
link_joined a b c k registers join (inl h) = elim join.both [
  | inl none ↦ subst (λ (o : Option Link). LinkHolds o k registers) (sym none) tt
  | inr both ↦ subst (λ (o : Option Link). LinkHolds o k registers) (sym both.0) h
]
link_joined a b c k registers join (inr h) = elim join.both [
  | inl none ↦ subst (λ (o : Option Link). LinkHolds o k registers) (sym none) tt
  | inr both ↦ subst (λ (o : Option Link). LinkHolds o k registers) (sym both.1) h
]

home_joined : (a b c : Option ℕ) (k : ℕ) (stack : Stack) (registers : List (Option Value)) (cells : List Cell) → IsLinkJoin a b c → HomeHolds a k stack registers cells ⊎ HomeHolds b k stack registers cells → HomeHolds c k stack registers cells
home_joined a b c k stack registers cells join (inl h) = elim join.both [
  | inl none ↦ subst (λ (o : Option ℕ). HomeHolds o k stack registers cells) (sym none) tt
  | inr both ↦ subst (λ (o : Option ℕ). HomeHolds o k stack registers cells) (sym both.0) h
]
home_joined a b c k stack registers cells join (inr h) = elim join.both [
  | inl none ↦ subst (λ (o : Option ℕ). HomeHolds o k stack registers cells) (sym none) tt
  | inr both ↦ subst (λ (o : Option ℕ). HomeHolds o k stack registers cells) (sym both.1) h
]

-- a number that stands whole where two blocks meet stands whole in both
number_of_value : (v : Kind) (s : Scalar) → block.Whole (kind.Number s) ≡ block_of v → v ≡ kind.Number s
number_of_value v s h1 = grind (arith)

numbers_join : (v w : Kind) (s : Scalar) → IsKindJoin v w (kind.Number s) → ((p : Scalar) × (v ≡ kind.Number p)) × ((q : Scalar) × (w ≡ kind.Number q))
numbers_join (kind.Number p) (kind.Number q) s h = ((p, refl), (q, refl))
numbers_join v w s h1 = absurd (grind (arith))

number_meets : (x y z : Block) (s : Scalar) → IsBlockJoin x y z → z ≡ block.Whole (kind.Number s) → ((p : Scalar) × (x ≡ block.Whole (kind.Number p))) × ((q : Scalar) × (y ≡ block.Whole (kind.Number q)))
number_meets (block.Whole v) (block.Whole w) z s h e =
    let is = number_of_value h.value s (sym e ∙ h.held) in
    let both = numbers_join v w s (rw is at h.kinds) in
    ((both.0.0, ap block.Whole both.0.1), (both.1.0, ap block.Whole both.1.1))
number_meets x y z s h e = absurd (let a : IsNotWhole z = h.apart in rw e at a)

module _ (a b c : Links) (x y z : Stack) (registers : List (Option Value)) (cells : List Cell) (joined : AreLinksJoined a b c) (meet : (k : ℕ) → k < 64 → IsBlockJoin (block_at x k) (block_at y k) (block_at z k)) where
  pub joined_left : LinksHold false a x registers cells → LinksHold false c z registers cells
  joined_left h = λ k lt. (
    link_joined (link_at a k) (link_at b k) (link_at c k) k registers (joined k lt).0 (inl (h k lt).0),
    home_joined (home_at a k) (home_at b k) (home_at c k) k z registers cells (joined k lt).1
        (inl (home_kept (home_at a k) k x z registers cells cells (λ d s few q there. ((number_meets (block_at x d) (block_at y d) (block_at z d) s (meet d few) there).0, refl)) (h k lt).1)),
  )

  pub joined_right : LinksHold false b y registers cells → LinksHold false c z registers cells
  joined_right h = λ k lt. (
    link_joined (link_at a k) (link_at b k) (link_at c k) k registers (joined k lt).0 (inr (h k lt).0),
    home_joined (home_at a k) (home_at b k) (home_at c k) k z registers cells (joined k lt).1
        (inr (home_kept (home_at b k) k y z registers cells cells (λ d s few q there. ((number_meets (block_at x d) (block_at y d) (block_at z d) s (meet d few) there).1, refl)) (h k lt).1)),
  )

-- ---- a link that is made

pub chosen : {A : Type 0} (k n : ℕ) (x y : A) → k ≡ n → (if k == n then x else y) ≡ x
chosen k n x y q = rw (same_is k n q) refl

pub not_chosen : {A : Type 0} (k n : ℕ) (x y : A) → k ≢ n → (if k == n then x else y) ≡ y
not_chosen k n x y ne = let told = Decides-eqb k n in grind (arith, told, ne)

made_there : {A : Type 0} (register : RegNo) (x : A) (xs : List (Option A)) (k : ℕ) (was : Option A) → reg_number register < length xs → get_or xs k None ≡ was → get_or (set xs (reg_number register) (Some x)) k None ≡ made_at (Some (register, x)) k was
made_there register x xs k was inside same =
    elim (cases_eq k (reg_number register)) [
      | inl q ↦ ap (λ (i : ℕ). get_or (set xs (reg_number register) (Some x)) i None) q ∙ get_or-set_same xs (reg_number register) (Some x) None inside ∙ sym (chosen k (reg_number register) (Some x) was q)
      | inr ne ↦ get_or-set_other xs (reg_number register) k (Some x) None ne ∙ same ∙ sym (not_chosen k (reg_number register) (Some x) was ne)
    ]

module _ (a b : Links) (register : RegNo) (any : b.any ≡ true) (same : (k : ℕ) → k < 11 → (link_at b k ≡ link_at a k) × (home_at b k ≡ home_at a k)) where
  link_there : (k : ℕ) → link_at b k ≡ get_or b.each k None
  link_there k = rw any refl

  home_there : (k : ℕ) → home_at b k ≡ get_or b.homes k None
  home_there k = rw any refl

  pub put_there : (link : Link) → reg_number register < length b.each → AreMade (Some (register, link)) None (λ k. None) a (record { any = b.any; each = set b.each (reg_number register) (Some link); homes = b.homes })
  put_there link inside = λ k lt. (rw any (made_there register link b.each k (link_at a k) inside (sym (link_there k) ∙ (same k lt).0)), (same k lt).1)

  pub put_home_there : (block : ℕ) → reg_number register < length b.homes → AreMade None (Some (register, block)) (λ k. None) a (record { any = b.any; each = b.each; homes = set b.homes (reg_number register) (Some block) })
  put_home_there block inside = λ k lt. ((same k lt).0, rw any (made_there register block b.homes k (home_at a k) inside (sym (home_there k) ∙ (same k lt).1)))

-- what is made, one thing after the other
pub both_made : (link : Option (RegNo × Link)) (home : Option (RegNo × ℕ)) (a b c : Links) → AreMade link None (λ k. None) a b → AreMade None home (λ k. None) b c → AreMade link home (λ k. None) a c
both_made link home a b c h g = λ k lt. ((g k lt).0 ∙ (h k lt).0, (g k lt).1 ∙ ap (made_at home k) (h k lt).1)

pub none_made : (a : Links) → AreMade None None (λ k. None) a a
none_made a = λ k lt. (refl, refl)

-- ---- links that are moved

pub none_moved : (action : Action) (a : Links) → a.any ≡ false → (k : ℕ) → moved_by action k (link_at a k) ≡ None
none_moved action a none k = rw none (of_none action) where
  of_none : (action : Action) → moved_by action k None ≡ None
  of_none action = grind (arith)

pub moved_so : (link : Option (RegNo × Link)) (home : Option (RegNo × ℕ)) (one other : ℕ → Option Link) (a b : Links) → ((k : ℕ) → k < 11 → one k ≡ other k) → AreMade link home one a b → AreMade link home other a b
moved_so link home one other a b same made = λ k lt. ((made k lt).0 ∙ ap (λ (o : Option Link). made_at link k (option_or o (link_at a k))) (same k lt), (made k lt).1)

-- what is set over links that may be looked at
pub moved_there : (a b c moved : Links) → b.any ≡ true → ((k : ℕ) → k < 11 → (link_at b k ≡ link_at a k) × (home_at b k ≡ home_at a k)) → c.any ≡ b.any → c.homes ≡ b.homes
    → ((k : ℕ) → k < 11 → get_or c.each k None ≡ option_or (link_at moved k) (get_or b.each k None))
    → (k : ℕ) → k < 11 → (link_at c k ≡ option_or (link_at moved k) (link_at a k)) × (home_at c k ≡ home_at a k)
moved_there a b c moved any same still homes each k lt =
    let here : c.any ≡ true = still ∙ any in
    let was : link_at b k ≡ get_or b.each k None = rw any refl in
    let home : home_at b k ≡ get_or b.homes k None = rw any refl in
    (rw here (each k lt ∙ ap (option_or (link_at moved k)) (sym was ∙ (same k lt).0)), rw (here, homes) (sym home ∙ (same k lt).1))

made_is : {A : Type 0} (P : ℕ → Option A → Type 0) (made : Option (RegNo × A)) (k : ℕ) (was : Option A) → ((m : RegNo × A) → made ≡ Some m → P (reg_number m.0) (Some m.1)) → P k was → P k (made_at made k was)
made_is P None k was here h = h
made_is P (Some m) k was here h = elim (cases_eq k (reg_number m.0)) [
  | inl q ↦ subst (P k) (sym (chosen k (reg_number m.0) (Some m.1) was q)) (subst (λ (j : ℕ). P j (Some m.1)) (sym q) (here m refl))
  | inr ne ↦ subst (P k) (sym (not_chosen k (reg_number m.0) (Some m.1) was ne)) h
]

-- a link of each register that is moved holds, or else the one that is left
option_holds : (o left : Option Link) (k : ℕ) (registers : List (Option Value)) → ((link : Link) → o ≡ Some link → LinkHolds (Some link) k registers) → LinkHolds left k registers → LinkHolds (option_or o left) k registers
option_holds None left k registers here h = h
option_holds (Some link) left k registers here h = here link refl

module _ (a b : Links) (stack : Stack) (registers : List (Option Value)) (cells : List Cell) (link : Option (RegNo × Link)) (home : Option (RegNo × ℕ)) (moved : ℕ → Option Link) (made : AreMade link home moved a b) where
  pub made_too : ((k : ℕ) (m : Link) → k < 11 → moved k ≡ Some m → LinkHolds (Some m) k registers) → ((m : RegNo × Link) → link ≡ Some m → LinkHolds (Some m.1) (reg_number m.0) registers) → ((m : RegNo × ℕ) → home ≡ Some m → HomeHolds (Some m.1) (reg_number m.0) stack registers cells)
      → LinksHold false a stack registers cells → LinksHold false b stack registers cells
  made_too moves links homes h = λ k lt. (
    subst (λ (o : Option Link). LinkHolds o k registers) (sym (made k lt).0) (made_is (λ (j : ℕ) (o : Option Link). LinkHolds o j registers) link k (option_or (moved k) (link_at a k)) links (option_holds (moved k) (link_at a k) k registers (λ m e. moves k m lt e) (h k lt).0)),
    subst (λ (o : Option ℕ). HomeHolds o k stack registers cells) (sym (made k lt).1) (made_is (λ (j : ℕ) (o : Option ℕ). HomeHolds o j stack registers cells) home k (home_at a k) homes (h k lt).1),
  )

-- ---- eleven things one after the other

-- each before one has been made anew, and those from it on are as they were
abbrev pub MadeBelow : {A : Type 0} (none : A) → (ℕ → A → A → Type 0) → List A → List A → ℕ → Type 0
MadeBelow none P a now i = DoneTo none (λ k x. P k (get_or a k none) x) 11 0 a now i

module _ {A : Type 0} (none : A) (P : ℕ → A → A → Type 0) (a : List A) where
  pub made_none : length a ≡ 11 → MadeBelow none P a a 0
  made_none eleven = record { long = eleven; begins = omega arith; done = λ k ge lt. absurd (omega arith); rest = λ k out. refl }

  pub made_one : (now : List A) (i : ℕ) (r : A) → i < 11 → MadeBelow none P a now i → P i (get_or now i none) r → MadeBelow none P a (set now i r) (i + 1)
  made_one now i r lt h p = next_done none (λ k x. P k (get_or a k none) x) 11 0 a now i r lt (subst (λ (x : A). P i x r) (h.rest i (inr (omega arith))) p) h

  pub made_kept : (now : List A) (i : ℕ) → i < 11 → MadeBelow none P a now i → P i (get_or now i none) (get_or now i none) → MadeBelow none P a now (i + 1)
  made_kept now i lt h p = subst (λ (xs : List A). MadeBelow none P a xs (i + 1)) (set-get_or now i none) (made_one now i (get_or now i none) lt h p)

-- what the links that are left are, and the links of two ways
abbrev pub IsLeft : RegNo → ℕ → Option Link → Option Link → Type 0
IsLeft written k old new = new ≡ link_left written k old

abbrev pub IsJoinedWith : {A : Type 0} → List (Option A) → ℕ → Option A → Option A → Type 0
IsJoinedWith other k old new = IsLinkJoin old (get_or other k None) new

-- what those that are moved are, and what is set over others
abbrev pub IsMovedFrom : RegNo → Width × BinOp × ℤ → ℕ → Option Link → Option Link → Type 0
IsMovedFrom dst by k old new = new ≡ moved_from dst by k old

abbrev pub IsSetOver : Links → ℕ → Option Link → Option Link → Type 0
IsSetOver moved k old new = new ≡ option_or (link_at moved k) old

-- what the homes that are left are
abbrev pub IsHomeLeft : ℕ → ℕ → Option ℕ → Option ℕ → Type 0
IsHomeLeft b k old new = new ≡ home_unless b old

pub links_met : (a b c : Links) → a.any ≡ true → b.any ≡ true → c.any ≡ a.any → ((k : ℕ) → k < 11 → IsLinkJoin (get_or a.each k None) (get_or b.each k None) (get_or c.each k None))
    → ((k : ℕ) → k < 11 → IsLinkJoin (get_or a.homes k None) (get_or b.homes k None) (get_or c.homes k None)) → AreLinksJoined a b c
links_met a b c one two same each homes = λ k lt. rw (same, one, two) (each k lt, homes k lt)

-- where one way has none, there are none
pub none_met : (a b c : Links) → (a.any ≡ false) ⊎ (b.any ≡ false) → c.any ≡ false → AreLinksJoined a b c
none_met a b c which none = λ k lt. grind (arith)

-- ---- numbers that are linked

derived_in : (r : Relation) (w : Width) (a plus derived : Scalar) → IsDerived r w a plus derived → (x p : ℕ) → InScalar a x → InScalar plus p → InScalar derived (derived_word r w x p)
derived_in r w a plus derived h1 x p h2 h3 = grind (arith)

traced_in : (r : Relation) (w : Width) (b plus traced : Scalar) → IsTraced r w b plus traced → (y p : ℕ) → InScalar b y → InScalar plus p → InScalar traced (traced_word r w y p)
traced_in r w b plus traced h1 y p h2 h3 = grind (arith)

module _ (link : Link) (w : Width) (lowest : link.bits ≡ Lowest w) (plus : Scalar) (is_plus : InScalar plus link.plus) (a b : Scalar) where
  related : (x y : ℕ) → AreLinked link x y → AreRelated link.relation (Lowest w) link.plus x y
  related x y l = subst (λ (bits : Bits). AreRelated link.relation bits link.plus x y) lowest l

  module _ (x y : ℕ) (at_a : InScalar a x) (at_b : InScalar b y) (l : AreLinked link x y) where
    derives : word_holds w Eq y (derived_word link.relation w x link.plus) ≡ true
    derives = linked_derived link.relation w link.plus x y (InScalar-words a x at_a) (InScalar-words b y at_b) (InScalar-words plus link.plus is_plus) (related x y l)

    traces : word_holds w Eq x (traced_word link.relation w y link.plus) ≡ true
    traces = linked_traced link.relation w link.plus x y (InScalar-words a x at_a) (InScalar-words b y at_b) (InScalar-words plus link.plus is_plus) (related x y l)

  module _ (derived : Scalar) (given : IsDerived link.relation w a plus derived) where
    pub none_derived : IsEqualKept w b derived None → (x y : ℕ) → InScalar a x → InScalar b y → AreLinked link x y → ⊥
    none_derived h x y at_a at_b l = h y (derived_word link.relation w x link.plus) at_b (derived_in link.relation w a plus derived given x link.plus at_a is_plus) (derives x y at_a at_b l)

    pub derived_met : (r : Scalar) → IsEqualKept w b derived (Some r) → (x y : ℕ) → InScalar a x → InScalar b y → AreLinked link x y → InScalar r y
    derived_met r h x y at_a at_b l = h y (derived_word link.relation w x link.plus) at_b (derived_in link.relation w a plus derived given x link.plus at_a is_plus) (derives x y at_a at_b l)

  module _ (traced : Scalar) (given : IsTraced link.relation w b plus traced) where
    pub none_traced : IsEqualKept w a traced None → (x y : ℕ) → InScalar a x → InScalar b y → AreLinked link x y → ⊥
    none_traced h x y at_a at_b l = h x (traced_word link.relation w y link.plus) at_a (traced_in link.relation w b plus traced given y link.plus at_b is_plus) (traces x y at_a at_b l)

    pub traced_met : (r : Scalar) → IsEqualKept w a traced (Some r) → (x y : ℕ) → InScalar a x → InScalar b y → AreLinked link x y → InScalar r x
    traced_met r h x y at_a at_b l = h x (traced_word link.relation w y link.plus) at_a (traced_in link.relation w b plus traced given y link.plus at_b is_plus) (traces x y at_a at_b l)

pub same_holds : (w : Width) (x : ℕ) → word_holds w Eq x x ≡ true
same_holds w x = grind (arith)

-- ---- numbers that are linked in the bits of a mask

low_and : (x m : ℕ) → m < 2 ^ 16 → bit_and x m ≡ bit_and (x % 2 ^ 16) m
low_and x m lt =
    let inside : bit_and 65535 m ≡ m = and_comm 65535 m ∙ and_mask m 16 ∙ omega (arith, lt) in
    sym (ap (bit_and x) inside) ∙ sym (and_assoc m x 65535) ∙ ap (λ (y : ℕ). bit_and y m) (and_mask x 16)

-- a number that has its own bits outside a mask, and such as are the same inside
mixed_is : (m x y : ℕ) → m < 2 ^ 64 → y < 2 ^ 64 → bit_and x m ≡ bit_and y m → word_result W64 Add (word_result W64 And x m) (word_result W64 And y (bit_not w64 m)) ≡ y
mixed_is m x y fits word same =
    let split : bit_and (bit_not w64 m) y + bit_and m y ≡ y = and-not 64 m y fits word in
    let left : bit_and x m ≡ bit_and m y = same ∙ and_comm y m in
    let right : bit_and y (bit_not w64 m) ≡ bit_and (bit_not w64 m) y = and_comm y (bit_not w64 m) in
    omega (arith, split, left, right, word)

shown : (a : Scalar) (n : ℕ) → ShowsOne a n → InScalar a n
shown a n h = (shows_one a n h n).1 refl

mixed_in : (m : ℕ) (inside outside mixed : Scalar) → IsMixed m inside outside mixed → (x y : ℕ) → m < 2 ^ 64 → y < 2 ^ 64 → InScalar inside x → InScalar outside y → bit_and x m ≡ bit_and y m → InScalar mixed y
mixed_in m inside outside mixed h x y fits word at_in at_out same =
    let low = h.is_low.sound x m at_in (shown h.mask m h.is_mask) in
    let high = h.is_high.sound y (bit_not w64 m) at_out (shown h.rest (bit_not w64 m) h.is_rest) in
    subst (InScalar mixed) (mixed_is m x y fits word same) (h.is_sum.sound (word_result W64 And x m) (word_result W64 And y (bit_not w64 m)) low high)

traced_so : (r : Relation) (p y : ℕ) → p < 2 ^ 64 → y < 2 ^ 64 → traced r p y ≡ traced_word r W64 y p
traced_so Sum p y h1 h2 = omega (arith, h1, h2)
traced_so Difference p y h1 h2 = omega (arith, h1, h2)

traced_fits : (r : Relation) (p y : ℕ) → traced_word r W64 y p < 2 ^ 64
traced_fits Sum p y = omega arith
traced_fits Difference p y = omega arith

traced_back : (r : Relation) (p y : ℕ) → p < 2 ^ 64 → y < 2 ^ 64 → derived_word r W64 (traced_word r W64 y p) p ≡ y
traced_back Sum p y h1 h2 = omega (arith, h1, h2)
traced_back Difference p y h1 h2 = omega (arith, h1, h2)

module _ (link : Link) (m : ℕ) (masked : link.bits ≡ Masked m) (few : m < 2 ^ 16) (plus : Scalar) (is_plus : InScalar plus link.plus) (a b from : Scalar) (given : IsTraced link.relation W64 b plus from) where
  wide : m < 2 ^ 64
  wide = omega (arith, few)

  module _ (x y : ℕ) (at_b : InScalar b y) (l : AreLinked link x y) where
    abbrev back_word : ℕ
    back_word = traced_word link.relation W64 y link.plus

    from_at : InScalar from back_word
    from_at = traced_in link.relation W64 b plus from given y link.plus at_b is_plus

    same_bits : bit_and back_word m ≡ bit_and x m
    same_bits =
        let alike : AreAlike m (traced link.relation link.plus y) x = masked_is link.relation m link.plus x y (subst (λ (bits : Bits). AreRelated link.relation bits link.plus x y) masked l) in
        let is = traced_so link.relation link.plus y (InScalar-words plus link.plus is_plus) (InScalar-words b y at_b) in
        ap (λ (t : ℕ). bit_and t m) (sym is) ∙ low_and (traced link.relation link.plus y) m few ∙ alike ∙ sym (low_and x m few)

  module _ (among : Scalar) (mixes : IsMixed m from a among) where
    among_at : (x y : ℕ) → InScalar a x → InScalar b y → AreLinked link x y → InScalar among x
    among_at x y at_a at_b l = mixed_in m from a among mixes (back_word x y at_b l) x wide (InScalar-words a x at_a) (from_at x y at_b l) at_a (same_bits x y at_b l)

    pub none_among : IsEqualKept W64 a among None → (x y : ℕ) → InScalar a x → InScalar b y → AreLinked link x y → ⊥
    none_among h x y at_a at_b l = h x x at_a (among_at x y at_a at_b l) (same_holds W64 x)

    pub among_met : (r : Scalar) → IsEqualKept W64 a among (Some r) → (x y : ℕ) → InScalar a x → InScalar b y → AreLinked link x y → InScalar r x
    among_met r h x y at_a at_b l = h x x at_a (among_at x y at_a at_b l) (same_holds W64 x)

  module _ (c back derived : Scalar) (mixes : IsMixed m c from back) (gives : IsDerived link.relation W64 back plus derived) where
    derived_at : (x y : ℕ) → InScalar c x → InScalar b y → AreLinked link x y → InScalar derived y
    derived_at x y at_c at_b l =
        let t = back_word x y at_b l in
        let there = mixed_in m c from back mixes x t wide (traced_fits link.relation link.plus y) at_c (from_at x y at_b l) (sym (same_bits x y at_b l)) in
        subst (InScalar derived) (traced_back link.relation link.plus y (InScalar-words plus link.plus is_plus) (InScalar-words b y at_b)) (derived_in link.relation W64 back plus derived gives t link.plus there is_plus)

    pub none_back : IsEqualKept W64 b derived None → (x y : ℕ) → InScalar c x → InScalar b y → AreLinked link x y → ⊥
    none_back h x y at_c at_b l = h y y at_b (derived_at x y at_c at_b l) (same_holds W64 y)

    pub back_met : (r : Scalar) → IsEqualKept W64 b derived (Some r) → (x y : ℕ) → InScalar c x → InScalar b y → AreLinked link x y → InScalar r y
    back_met r h x y at_c at_b l = h y y at_b (derived_at x y at_c at_b l) (same_holds W64 y)

-- ---- numbers that others cover

-- a set in which there is a number is left as it is by one that it is within
pub within_narrowed : (w : Width) (a b : Scalar) (n : ℕ) → InScalar a n → IsWithin InScalar a b → AreNarrowed (record { cond = Eq; width = w; taken = true }) a b (a, a)
within_narrowed w a b n at_n inside = record {
  within = (λ x h. h, inside);
  words = λ sees said. record {
    left = λ s all x h. all x (x, h.unsigned, (inside x h).unsigned, same_holds W64 x);
    right = λ s all x h. all x (x, h.unsigned, (inside x h).unsigned, same_holds W64 x);
    some = (n, (n, at_n.unsigned, (inside n at_n).unsigned, same_holds W64 n));
  };
  numbers = λ whole said. record {
    left = λ s all x h. all x (x, h.signed, (inside x h).signed, same_holds W64 x);
    right = λ s all x h. all x (x, h.signed, (inside x h).signed, same_holds W64 x);
    some = (n, (n, at_n.signed, (inside n at_n).signed, same_holds W64 n));
  };
  halves = λ half said. record {
    left = λ s all x h. all x (x, h.half, (inside x h).half, same_holds W32 x);
    right = λ s all x h. all x (x, h.half, (inside x h).half, same_holds W32 x);
    some = (n, (n, at_n.half, (inside n at_n).half, same_holds W32 n));
  };
  equal = λ sees said. (inside, λ x h. h);
  bits = λ said. (
    λ x h. record { partner = x; there = (inside x h).bits; alike = refl },
    λ x h. record { partner = x; there = h.bits; alike = refl },
  );
  single = λ x y one other. subst (λ (z : ℕ). word_holds w Eq x z ≡ true) ((shows_one b y other x).0 (inside x ((shows_one a x one x).1 refl))) (same_holds w x);
}

-- one that covers others is left those, if there is one of them
pub covered_narrowed : (w : Width) (a b : Scalar) (n : ℕ) → InScalar b n → IsWithin InScalar b a → AreNarrowed (record { cond = Eq; width = w; taken = true }) a b (b, b)
covered_narrowed w a b n at_n inside = record {
  within = (inside, λ x h. h);
  words = λ sees said. record {
    left = λ s all x h. all x (x, (inside x h).unsigned, h.unsigned, same_holds W64 x);
    right = λ s all x h. all x (x, (inside x h).unsigned, h.unsigned, same_holds W64 x);
    some = (n, (n, (inside n at_n).unsigned, at_n.unsigned, same_holds W64 n));
  };
  numbers = λ whole said. record {
    left = λ s all x h. all x (x, (inside x h).signed, h.signed, same_holds W64 x);
    right = λ s all x h. all x (x, (inside x h).signed, h.signed, same_holds W64 x);
    some = (n, (n, (inside n at_n).signed, at_n.signed, same_holds W64 n));
  };
  halves = λ half said. record {
    left = λ s all x h. all x (x, (inside x h).half, h.half, same_holds W32 x);
    right = λ s all x h. all x (x, (inside x h).half, h.half, same_holds W32 x);
    some = (n, (n, (inside n at_n).half, at_n.half, same_holds W32 n));
  };
  equal = λ sees said. (λ x h. h, inside);
  bits = λ said. (
    λ x h. record { partner = x; there = h.bits; alike = refl },
    λ x h. record { partner = x; there = (inside x h).bits; alike = refl },
  );
  single = λ x y one other. subst (λ (z : ℕ). word_holds w Eq z y ≡ true) ((shows_one a x one y).0 (inside y ((shows_one b y other y).1 refl))) (same_holds w y);
}

-- words that are equal are one
pub same_word : (x y : ℕ) → x < 2 ^ 64 → y < 2 ^ 64 → word_holds W64 Eq x y ≡ true → y ≡ x
same_word x y h1 h2 h3 = grind (arith)

pub covered_kept : (a b : Scalar) → IsEqualKept W64 a b (Some b)
covered_kept a b x y at_a at_b same = subst (InScalar b) (same_word x y (InScalar-words a x at_a) (InScalar-words b y at_b) same) at_b

-- ==== what a link leaves of what is known of its two registers

-- ---- two registers

module _ (link : Link) (a b : Scalar) where
  pub none_linked : AreNumbersRefined link a b None → IsLinkRefined link (kind.Number a) (kind.Number b) None
  none_linked h = λ v u f g l. by v u f g l where
    by : (v u : Option Value) → RegFits false (kind.Number a) v → RegFits false (kind.Number b) u → AreValuesLinked link v u → ⊥
    by (Some (Number x)) (Some (Number y)) f g l = h x y f g (l x y refl refl)
    by (Some (Number x)) u f g l = g
    by v u f g l = f

  same_shape : (c d : Scalar) (o : Option Value) → RegFits true (kind.Number c) o → RegFits true (kind.Number d) o
  same_shape c d o h1 = grind (arith)

  pub numbers_linked : (c d : Scalar) → AreNumbersRefined link a b (Some (c, d)) → IsLinkRefined link (kind.Number a) (kind.Number b) (Some (kind.Number c, kind.Number d))
  numbers_linked c d h = (λ v u f g l. by v u f g l, λ o f. same_shape a c o f, λ o f. same_shape b d o f) where
    by : (v u : Option Value) → RegFits false (kind.Number a) v → RegFits false (kind.Number b) u → AreValuesLinked link v u → RegFits false (kind.Number c) v × RegFits false (kind.Number d) u
    by (Some (Number x)) (Some (Number y)) f g l = h x y f g (l x y refl refl)
    by (Some (Number x)) u f g l = absurd g
    by v u f g l = absurd f

pub as_they_are : (link : Link) (a b : Kind) → IsLinkRefined link a b (Some (a, b))
as_they_are link a b = (λ v u f g l. (f, g), λ o f. f, λ o f. f)
