-- Words, cells and accesses: the page's are those of insn.
use Rattle.std.proofs.Common.{◌≡◌, ℕ, zero, suc, ◌+◌, ◌-◌, ◌/◌, ◌%◌, ◌^◌, ℤ, pos, negsuc, Bool, true, false, List, [], ◌∷◌, take, drop, Option, Some, None, refl, sym, ap, ◌∙◌, arith}
use Rattle.std.specs.Prelude.{◌==◌, ◌&&◌, nat_le, if◌then◌else◌, ◌+ℤ◌}
use Rattle.std.specs.Int.{cast_signed, cast_unsigned, Width as IntWidth}
use Rattle.std.specs.List.{list_any}
use native.Mathlib.Nat.{div-zero, mod-zero}
use Rattle.std.proofs.lemmas.Bool.{eqb-true}
use Rattle.std.specs.Int.RustNames.{int_div, int_rem}
use Rattle.hook_page.proofs.Names.{Layout, Region, Record, Stack, Pointer, Value, Number, Address, Cell, Byte, Part, Width, W32, W64, BinOp, Add, Sub, Mul, Div, Sdiv, Or, And, Lsh, Rsh, Mod, Smod, Xor, Mov, Arsh}
use Rattle.hook_page.proofs.Names.{Size, Eight, PointerMisuse, OutOfRegion, WalkFault}
use Rattle.insn.specs.declared.layout.Layout.TheVariants.{V1, V2}
use Rattle.encoding.specs.declared.slot.Slot.{Slot}
use Rattle.insn.specs.Instruction.{size_bytes}
use Rattle.insn.specs.Word as word
use Rattle.insn.specs.Word.{int_width}
use Rattle.insn.specs.Values as code
use Rattle.insn.specs.Values.{State}
use Rattle.insn.specs.Arithmetic.{defined_result, moved_pointer}
use Rattle.insn.specs.Memory as memory
use Rattle.insn.specs.Memory.{is_unset}
use Rattle.insn.specs.Outcomes.{Passes, Fails, passed, passes_if, or_fault, and_then, access_place, value_at, all_set, stored_state}
use Rattle.hook_page.specs.Hooks as page
use Rattle.hook_page.specs.Hooks.{◌>>=◌}

only_if_is : {A : Type 0} (b : Bool) (x : A) → page.only_if b x ≡ code.only_if b (Some x)
only_if_is true x = refl
only_if_is false x = refl

pub size_is : (layout : Layout) (r : Region) → page.size layout r ≡ code.region_size layout r
size_is V1 Record = refl
size_is V2 Record = refl
size_is V1 Stack = refl
size_is V2 Stack = refl

-- ---- arithmetic

-- the code and the offset of an operation
abbrev pub code_of : BinOp → ℕ
code_of Add = 0x0
code_of Sub = 0x1
code_of Mul = 0x2
code_of Div = 0x3
code_of Sdiv = 0x3
code_of Or = 0x4
code_of And = 0x5
code_of Lsh = 0x6
code_of Rsh = 0x7
code_of Mod = 0x9
code_of Smod = 0x9
code_of Xor = 0xA
code_of Mov = 0xB
code_of Arsh = 0xC

abbrev pub offset_of : BinOp → ℤ
offset_of Sdiv = pos 1
offset_of Smod = pos 1
offset_of op = pos 0

abbrev pub joined : Option (Option Value) → Option Value
joined None = None
joined (Some o) = o

abbrev a_number : ℕ → Option Value
a_number n = Some (Number n)

not_zero : (b : ℕ) → (suc b == 0) ≡ false
not_zero b = by (suc b == 0) refl where
  by : (t : Bool) → (suc b == 0) ≡ t → t ≡ false
  by true e = absurd (omega (arith, eqb-true (suc b) 0 e))
  by false e = refl

div_is : (a b : ℕ) → (if b == 0 then 0 else a / b) ≡ a / b
div_is a zero = sym (div-zero a)
div_is a (suc b) = rw (not_zero b) refl

mod_is : (a b : ℕ) → (if b == 0 then a else a % b) ≡ a % b
mod_is a zero = sym (mod-zero a)
mod_is a (suc b) = rw (not_zero b) refl

sdiv_is : (w : IntWidth) (a b : ℕ) → (if b == 0 then 0 else page.low w (cast_unsigned w (int_div (cast_signed w a) (cast_signed w b)))) ≡ word.signed_quotient w a b
sdiv_is w a zero = refl
sdiv_is w a (suc b) = rw (not_zero b) refl

smod_is : (w : IntWidth) (a b : ℕ) → (if b == 0 then a else cast_unsigned w (int_rem (cast_signed w a) (cast_signed w b))) ≡ word.signed_remainder w a b
smod_is w a zero = refl
smod_is w a (suc b) = rw (not_zero b) refl

module _ (layout : Layout) (slots : List Slot) where
  moved_is : (p : Pointer) (to : ℕ) → page.moved layout slots p to ≡ moved_pointer layout p (to % 2 ^ 64)
  moved_is p to = rw (size_is layout p.region) (only_if_is _ _)

  pub result_is : (w : Width) (op : BinOp) (a b : Value) → page.result layout slots (int_width w) (code_of op) (offset_of op) a b ≡ joined (defined_result layout w op a b)
  result_is W32 Div (Number a) (Number b) = ap a_number (div_is (word.seen W32 a) (word.seen W32 b))
  result_is W64 Div (Number a) (Number b) = ap a_number (div_is a b)
  result_is W32 Mod (Number a) (Number b) = ap a_number (mod_is (word.seen W32 a) (word.seen W32 b))
  result_is W64 Mod (Number a) (Number b) = ap a_number (mod_is a b)
  result_is W32 Sdiv (Number a) (Number b) = ap a_number (sdiv_is (int_width W32) (word.seen W32 a) (word.seen W32 b))
  result_is W64 Sdiv (Number a) (Number b) = ap a_number (sdiv_is (int_width W64) a b)
  result_is W32 Smod (Number a) (Number b) = ap a_number (smod_is (int_width W32) (word.seen W32 a) (word.seen W32 b))
  result_is W64 Smod (Number a) (Number b) = ap a_number (smod_is (int_width W64) a b)
  result_is W64 Add (Number a) (Address p) = moved_is p (p.offset + a)
  result_is W64 Add (Address p) (Number b) = moved_is p (p.offset + b)
  result_is W64 Sub (Address p) (Number b) = moved_is p (p.offset + (2 ^ 64 - b))
  result_is w op (Number a) (Number b) = refl
  result_is w op (Number a) (Address p) = refl
  result_is w op (Address p) (Number b) = refl
  result_is W32 Mov (Address p) (Address q) = refl
  result_is W64 Mov (Address p) (Address q) = refl
  result_is w op (Address p) (Address q) = refl

-- ---- cells

number_in_is : (cells : List Cell) → page.number_in cells ≡ memory.number_spelled cells
number_in_is [] = refl
number_in_is (Byte b ∷ cells) = rw (number_in_is cells) refl
number_in_is (cell ∷ cells) = refl

same_region_is : (r q : Region) → page.same_region r q ≡ memory.same_region r q
same_region_is Record Record = refl
same_region_is r q = refl

are_parts_is : (p : Pointer) (k : ℕ) (cells : List Cell) → page.are_parts p k cells ≡ memory.are_parts p k cells
are_parts_is p k [] = refl
are_parts_is p k (Part q j ∷ cells) = rw (same_region_is p.region q.region, are_parts_is p (k + 1) cells) refl
are_parts_is p k (cell ∷ cells) = refl

value_in_is : (cells : List Cell) → page.value_in cells ≡ memory.value_in cells
value_in_is (Byte b ∷ cells) = rw (number_in_is cells) refl
value_in_is (Part p k ∷ cells) = ap (λ (b : Bool). page.only_if b (Address p)) (are_parts_is p 0 (Part p k ∷ cells)) ∙ only_if_is _ _
value_in_is cells = refl

and_false : (b : Bool) → (b && false) ≡ false
and_false true = refl
and_false false = refl

unset_number : (cells : List Cell) → list_any is_unset cells ≡ true → memory.number_spelled cells ≡ None
unset_number [] h = absurd cc
unset_number (Byte b ∷ cells) h = rw (unset_number cells h) refl
unset_number (cell ∷ cells) h = refl

unset_parts : (p : Pointer) (k : ℕ) (cells : List Cell) → list_any is_unset cells ≡ true → memory.are_parts p k cells ≡ false
unset_parts p k [] h = absurd cc
unset_parts p k (Part q j ∷ cells) h = rw (unset_parts p (k + 1) cells h) (and_false _)
unset_parts p k (cell ∷ cells) h = refl

unset_none : (cells : List Cell) → list_any is_unset cells ≡ true → memory.value_in cells ≡ None
unset_none (Byte b ∷ cells) h = rw (unset_number cells h) refl
unset_none (Part p k ∷ cells) h = ap (λ (b : Bool). code.only_if b (Some (Address p))) (unset_parts p 0 (Part p k ∷ cells) h)
unset_none cells h = refl

passed_or : {A : Type 0} (o : Option A) (f : WalkFault) → o ≡ passed (or_fault o f)
passed_or None f = refl
passed_or (Some x) f = refl

set_or_none : (cells : List Cell) → memory.value_in cells ≡ passed (and_then (all_set cells) (λ cs. or_fault (memory.value_in cs) PointerMisuse))
set_or_none cells = by (list_any is_unset cells) refl where
  by : (b : Bool) → list_any is_unset cells ≡ b → memory.value_in cells ≡ passed (and_then (all_set cells) (λ cs. or_fault (memory.value_in cs) PointerMisuse))
  by true e = rw e (unset_none cells e)
  by false e = rw e (passed_or (memory.value_in cells) PointerMisuse)

cells_is : (s : State) (r : Region) → page.cells_of s r ≡ code.cells_of s r
cells_is s Record = refl
cells_is s Stack = refl

pub value_at_is : (s : State) (p : Pointer) (size : Size) → page.value_in (take (size_bytes size) (drop p.offset (page.cells_of s p.region))) ≡ passed (value_at s p size)
value_at_is s p size = let cells = take (size_bytes size) (drop p.offset (code.cells_of s p.region)) in rw (cells_is s p.region) (value_in_is cells ∙ set_or_none cells)

bytes_is : (n a : ℕ) → page.bytes_of n a ≡ memory.low_bytes n a
bytes_is zero a = refl
bytes_is (suc n) a = ap (λ (bs : List ℕ). a % 256 ∷ bs) (bytes_is n (a / 256))

-- ---- accesses

module _ (layout : Layout) (slots : List Slot) where
  pub access_is : (base : Value) (offset : ℤ) (size : Size) → page.access layout slots offset (size_bytes size) base ≡ passed (access_place layout base offset size)
  access_is (Number a) offset size = refl
  access_is (Address p) offset size = by (pos p.offset +ℤ offset) where
    room : (at : ℕ) (b : Bool) → page.only_if b (code.at p.region at) ≡ passed (and_then (or_fault (code.only_if b (Some at)) OutOfRegion) (λ first. Passes (code.at p.region first)))
    room at true = refl
    room at false = refl

    by : (z : ℤ) → (page.natural z >>= λ at. page.only_if (nat_le (at + size_bytes size) (page.size layout p.region)) (code.at p.region at))
        ≡ passed (and_then (or_fault (memory.within (code.region_size layout p.region) z (size_bytes size)) OutOfRegion) (λ first. Passes (code.at p.region first)))
    by (negsuc k) = refl
    by (pos at) = rw (size_is layout p.region) (room at _)

written_if : (b : Bool) (s : State) (f : WalkFault) → page.only_if b s ≡ passed (if b then Passes s else Fails f)
written_if true s f = refl
written_if false s f = refl

stands_if : (b : Bool) (s : State) (f : WalkFault) → page.only_if b s ≡ passed (passes_if b s f)
stands_if true s f = refl
stands_if false s f = refl

never : (b : Bool) (f g : WalkFault) → None ≡ passed {A = State} (if b then Fails f else Fails g)
never true f g = refl
never false f g = refl

pub stored_is : (layout : Layout) (s : State) (r : Region) (at : ℕ) (size : Size) (v : Value) → page.stored s r at (size_bytes size) v ≡ passed (stored_state layout s (code.at r at) size v)
stored_is V1 s Record at size (Number a) = rw (bytes_is (size_bytes size) a) (written_if _ _ _)
stored_is V2 s Record at size (Number a) = rw (bytes_is (size_bytes size) a) (written_if _ _ _)
stored_is layout s Stack at size (Number a) = rw (bytes_is (size_bytes size) a) refl
stored_is V1 s Record at size (Address p) = never _ _ _
stored_is V2 s Record at size (Address p) = never _ _ _
stored_is layout s Stack at Eight (Address p) = stands_if _ _ _
stored_is layout s Stack at size (Address p) = refl
