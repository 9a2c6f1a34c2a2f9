-- Registers whose number is another's plus a constant or a constant less another's, or stands in a block of the stack, too; and what
-- instructions leave of that.
use Rattle.std.specs.Prelude.{◌≡◌, ◌⊎◌, ℕ, ◌+◌, ◌-◌, ◌*◌, ◌^◌, ◌<◌, ◌==◌, ◌||◌, ◌&&◌, not, bit_and, ◌%◌, ℤ, pos, List, slice_index_or, Bool, true, false, if◌then◌else◌, Option, Some, None}
use Rattle.links.specs.Names.{RegNo, BinOp, Add, Sub, And, Lsh, Rsh, Mov, Arsh, Width, W32, W64, Operand, Reg, Imm, Action, Operate, Value, Number, reg_number, ◌>>=◌, value_of, int_width, wrapped, Kind, Bits}
use Rattle.links.specs.Names.{Lowest, Shifted, Masked, Relation, Sum, Difference, Cell, Scalar, block_at}
use Rattle.std.specs.Int.{w64, cast_unsigned}
use Rattle.std.specs.Option.{option_or}
use Rattle.std.specs.Ordering.{int_eq}
use Rattle.scalar.specs.Bounds.{least_word, greatest_word}
use Rattle.reg_kind.specs.declared.reg.Reg.TheVariants as kind
use Rattle.stack_state.specs.Fits.{block_cells, cells_filled}
use Rattle.stack_state.specs.declared.block.Block.TheVariants as block
use Rattle.stack_state.specs.declared.stack.Stack.{Stack}
use Rattle.links.specs.declared.link.Link.{Link}
use Rattle.links.specs.declared.link.Links.{Links}
use Rattle.links.specs.declared.link.Turn.{Turn}
use Rattle.links.specs.declared.link.Turn.TheVariants.{Left, Right, Others}

-- the number to which another one is traced by a relation and a constant
abbrev pub traced : Relation → ℕ → ℕ → ℕ
traced Sum plus b = wrapped w64 (b + (2 ^ 64 - wrapped w64 plus))
traced Difference plus b = wrapped w64 (plus + (2 ^ 64 - wrapped w64 b))

-- two numbers have the same bits inside a mask of two bytes
abbrev pub AreAlike : ℕ → ℕ → ℕ → Type 0
AreAlike m x y = bit_and (x % 2 ^ 16) m ≡ bit_and (y % 2 ^ 16) m

-- In the bits of a width b is a plus the constant, or with a it comes to the constant; or it is so of b and of the other two
-- shifted by half a word; or a is in the bits of a mask what b is traced to.
abbrev pub AreRelated : Relation → Bits → ℕ → ℕ → ℕ → Type 0
AreRelated Sum (Lowest w) plus a b = wrapped (int_width w) b ≡ wrapped (int_width w) (a + plus)
AreRelated Sum (Masked m) plus a b = AreAlike m (traced Sum plus b) a
AreRelated Sum Shifted plus a b = wrapped w64 b ≡ wrapped w64 (2 ^ 32 * (a + plus))
AreRelated Difference (Lowest w) plus a b = wrapped (int_width w) (a + b) ≡ wrapped (int_width w) plus
AreRelated Difference (Masked m) plus a b = AreAlike m (traced Difference plus b) a
AreRelated Difference Shifted plus a b = wrapped w64 (2 ^ 32 * a + b) ≡ wrapped w64 (2 ^ 32 * plus)

abbrev pub AreLinked : Link → ℕ → ℕ → Type 0
AreLinked link a b = AreRelated link.relation link.bits link.plus a b

-- it is so of two values, where both are numbers
abbrev pub AreValuesLinked : Link → Option Value → Option Value → Type 0
AreValuesLinked link v u = (a b : ℕ) → v ≡ Some (Number a) → u ≡ Some (Number b) → AreLinked link a b

-- a link of register k holds
abbrev pub LinkHolds : Option Link → ℕ → List (Option Value) → Type 0
LinkHolds None k registers = Unit {0}
LinkHolds (Some link) k registers = AreValuesLinked link (value_of registers link.of) (slice_index_or registers k None)

-- the link of register k
abbrev pub link_at : Links → ℕ → Option Link
link_at links k = if links.any then slice_index_or links.each k None else None

-- a home of register k holds: while a number stands whole in that block, it is the register's
abbrev pub HomeHolds : Option ℕ → ℕ → Stack → List (Option Value) → List Cell → Type 0
HomeHolds None k stack registers cells = Unit {0}
HomeHolds (Some b) k stack registers cells = (a : Scalar) (n : ℕ) → b < 64 → block_at stack b ≡ block.Whole (kind.Number a)
    → slice_index_or registers k None ≡ Some (Number n) → block_cells cells b ≡ cells_filled (Number n)

-- the home of register k: a block of the stack in which its number stands, too
abbrev pub home_at : Links → ℕ → Option ℕ
home_at links k = if links.any then slice_index_or links.homes k None else None

-- no register has one
abbrev pub AreHomeless : Links → Type 0
AreHomeless links = (k : ℕ) → k < 11 → home_at links k ≡ None

-- each link holds, and each home; of shapes nothing is said
abbrev pub LinksHold : Bool → Links → Stack → List (Option Value) → List Cell → Type 0
LinksHold true links stack registers cells = Unit {0}
LinksHold false links stack registers cells =
    (k : ℕ) → k < 11 → LinkHolds (link_at links k) k registers × HomeHolds (home_at links k) k stack registers cells

-- ---- instructions

-- what is left of a link of register k when a register is written: nothing, where that is one of its two
abbrev pub link_left : RegNo → ℕ → Option Link → Option Link
link_left written k None = None
link_left written k (Some link) = if reg_number written == k || reg_number written == reg_number link.of then None else Some link

-- whether a link of register k joins a register: it is one of its two
abbrev pub joins : RegNo → ℕ → Option Link → Bool
joins r k None = false
joins r k (Some link) = reg_number r == k || reg_number r == reg_number link.of

-- whether it has its turn in a test of two numbers: it joins the left one, or the right one, or neither
abbrev pub has_turn : Turn → RegNo → Operand → ℕ → Option Link → Bool
has_turn Left left right k link = joins left k link
has_turn Right left (Reg r) k link = joins r k link
has_turn Right left (Imm imm) k link = false
has_turn Others left (Reg r) k link = not (joins left k link) && not (joins r k link)
has_turn Others left (Imm imm) k link = not (joins left k link)

-- it, where it has its turn
abbrev pub with_turn : Turn → RegNo → Operand → ℕ → Option Link → Option Link
with_turn turn left right k link = if has_turn turn left right k link then link else None

-- of its home: nothing, where it is the register's own
abbrev pub home_left : RegNo → ℕ → Option ℕ → Option ℕ
home_left written k home = if reg_number written == k then None else home

abbrev pub AreLeft : RegNo → Links → Links → Type 0
AreLeft written old new = (k : ℕ) → k < 11 → (link_at new k ≡ link_left written k (link_at old k)) × (home_at new k ≡ home_left written k (home_at old k))

-- what is left of a home when a block is stored to: nothing, where it is that block
abbrev pub home_unless : ℕ → Option ℕ → Option ℕ
home_unless b None = None
home_unless b (Some home) = if home == b then None else Some home

abbrev pub AreHomesLeft : ℕ → Links → Links → Type 0
AreHomesLeft b old new = (k : ℕ) → k < 11 → (link_at new k ≡ link_at old k) × (home_at new k ≡ home_unless b (home_at old k))

-- the link of a copy, and of a constant from which another number was taken
abbrev pub copied : RegNo → Width → Link
copied of width = record { of = of; relation = Sum; plus = 0; bits = Lowest width }

abbrev pub less : ℕ → RegNo → Width → Link
less plus of width = record { of = of; relation = Difference; plus = plus; bits = Lowest width }

-- the bits of a byte, or of two: those of a sum are told by the same ones of its terms
abbrev pub is_whole : ℕ → Bool
is_whole m = m == 255 || m == 65535

-- the two lowest bytes of a constant
abbrev pub mask_of : ℤ → ℕ
mask_of imm = cast_unsigned w64 imm % 2 ^ 16

-- two numbers that are equal in the bits that a link tells
abbrev pub is_equal : Relation → ℕ → Bool
is_equal Sum plus = plus == 0
is_equal Difference plus = false

-- the bits that a link tells once all but those of a mask are cleared in one of its registers
abbrev pub bits_masked : ℕ → Bits → Option Bits
bits_masked m (Lowest v) = Some (Masked m)
bits_masked m (Masked own) = Some (Masked (bit_and own m))
bits_masked m Shifted = None

-- the bits that a link tells after an operation on its register and a constant: a sum's in both widths, those of a mask, those
-- shifted up by half a word, and their low half when they are shifted back
abbrev pub lesser : Width → Width → Width
lesser W32 width = W32
lesser W64 width = width

abbrev pub bits_after : Width → BinOp → ℤ → Bool → Bits → Option Bits
bits_after w Add imm equal (Lowest v) = Some (Lowest (lesser w v))
bits_after w Add imm equal (Masked m) = Some (Masked m)
bits_after w And imm equal bits = if equal || is_whole (mask_of imm) then bits_masked (mask_of imm) bits else None
bits_after W64 Lsh imm equal (Lowest v) = if int_eq imm (pos 32) then Some Shifted else None
bits_after W64 Rsh imm equal Shifted = if int_eq imm (pos 32) then Some (Lowest W32) else None
bits_after W64 Arsh imm equal Shifted = if int_eq imm (pos 32) then Some (Lowest W32) else None
bits_after w op imm equal bits = None

-- its constant
abbrev pub plus_after : BinOp → ℤ → ℕ → ℕ
plus_after Add imm plus = wrapped w64 (plus + cast_unsigned w64 imm)
plus_after op imm plus = plus

abbrev pub link_after : Width → BinOp → ℤ → Link → Option Link
link_after w op imm link = do
  bits ← bits_after w op imm (is_equal link.relation link.plus) link.bits
  Some (record link { plus = plus_after op imm link.plus; bits = bits })

-- a link of a register, unless it is one with itself
abbrev pub link_of : RegNo → Link → Option (RegNo × Link)
link_of register link = if reg_number register == reg_number link.of then None else Some (register, link)

-- a register's link after an operation on it and a constant
abbrev pub link_kept : RegNo → Width × BinOp × ℤ → Option Link → Option (RegNo × Link)
link_kept register by old = do
  link ← old
  after ← link_after by.0 by.1 by.2 link
  link_of register after

-- the link of a register after another's number was taken from its own, where that can be one number alone
abbrev pub difference_from : Width → RegNo → RegNo → Kind → Kind → Option (RegNo × Link)
difference_from w register of (kind.Number a) (kind.Number b) = if least_word a == greatest_word a then link_of register (less (least_word a) of w) else None
difference_from w register of a b = None

abbrev pub difference_made : Width → RegNo → RegNo → List Kind → Option (RegNo × Link)
difference_made w register of registers =
    difference_from w register of (slice_index_or registers (reg_number register) kind.Unset) (slice_index_or registers (reg_number of) kind.Unset)

-- the link that an instruction makes
abbrev pub link_made : List Kind → Links → Action → Option (RegNo × Link)
link_made registers links (Operate w Mov dst (Reg src)) = link_of dst (copied src w)
link_made registers links (Operate w Sub dst (Reg src)) = difference_made w dst src registers
link_made registers links (Operate w op dst (Imm imm)) = link_kept dst (w, op, imm) (link_at links (reg_number dst))
link_made registers links action = None

-- ---- a constant is added to the other register of a link, or masks it

abbrev pub bits_moved : Width → Bits → Option Bits
bits_moved w (Lowest v) = Some (Lowest (lesser w v))
bits_moved w Shifted = Some Shifted
bits_moved w (Masked m) = if is_whole m then Some (Masked m) else None

abbrev pub plus_moved : Relation → ℕ → ℕ → ℕ
plus_moved Sum c plus = wrapped w64 (plus + (2 ^ 64 - c))
plus_moved Difference c plus = wrapped w64 (plus + c)

-- that register was what it is less the constant, and so the link is moved against it; or it had the bits of the mask already
abbrev pub link_moved : Width → BinOp → ℤ → Link → Option Link
link_moved w Add imm link = do
  bits ← bits_moved w link.bits
  Some (record link { plus = plus_moved link.relation (cast_unsigned w64 imm) link.plus; bits = bits })
link_moved w And imm link = do
  bits ← bits_masked (mask_of imm) link.bits
  Some (record link { bits = bits })
link_moved w op imm link = None

-- what becomes of a link of register k where a register is changed by a constant; None where it is none with that
abbrev pub moved_from : RegNo → Width × BinOp × ℤ → ℕ → Option Link → Option Link
moved_from dst by k None = None
moved_from dst by k (Some link) =
    if reg_number dst == k then None else if reg_number dst == reg_number link.of then link_moved by.0 by.1 by.2 link else None

abbrev pub moved_by : Action → ℕ → Option Link → Option Link
moved_by (Operate w Add dst (Imm imm)) k link = moved_from dst (w, Add, imm) k link
moved_by (Operate w And dst (Imm imm)) k link = moved_from dst (w, And, imm) k link
moved_by action k link = None

-- an instruction adds a constant to a register, or masks it; no other one moves links
abbrev pub AddsOrMasks : Action → Type 0
AddsOrMasks (Operate w Add dst (Imm imm)) = Unit {0}
AddsOrMasks (Operate w And dst (Imm imm)) = Unit {0}
AddsOrMasks action = ⊥

-- the link of register k among those that are moved, if any are
abbrev pub links_in : Option Links → ℕ → Option Link
links_in None k = None
links_in (Some links) k = link_at links k

-- the first register that has one of some links is register k
pub record IsFirstLink (links : ℕ → Option Link) (k : ℕ) (link : Link) : Type 0 where
  pub inside : k < 11
  pub own : links k ≡ Some link
  pub before : (j : ℕ) → j < k → links j ≡ None

-- ---- what is there behind an instruction

-- what a register has, if it is given some, and else what it had
abbrev pub made_at : {A : Type 0} → Option (RegNo × A) → ℕ → Option A → Option A
made_at None k was = was
made_at (Some made) k was = if k == reg_number made.0 then Some made.1 else was

-- a link and a home are there, if they are made, and each link that is moved; all others stay
abbrev pub AreMade : Option (RegNo × Link) → Option (RegNo × ℕ) → (ℕ → Option Link) → Links → Links → Type 0
AreMade link home moved old new = (k : ℕ) → k < 11 → (link_at new k ≡ made_at link k (option_or (moved k) (link_at old k))) × (home_at new k ≡ made_at home k (home_at old k))

-- ---- two ways that meet

-- the third is none, or both others; it is the first where both are the same
pub record IsLinkJoin {A : Type 0} (a b c : Option A) : Type 0 where
  pub both : (c ≡ None) ⊎ ((c ≡ a) × (c ≡ b))
  pub kept : b ≡ a → c ≡ a

abbrev pub AreLinksJoined : Links → Links → Links → Type 0
AreLinksJoined a b c = (k : ℕ) → k < 11 → IsLinkJoin (link_at a k) (link_at b k) (link_at c k) × IsLinkJoin (home_at a k) (home_at b k) (home_at c k)
