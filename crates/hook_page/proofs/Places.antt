-- The slots of a program: what begins at each, and how many instructions there are.
use Rattle.std.proofs.Common.{◌≡◌, ℕ, zero, suc, ◌+◌, Bool, true, false, List, [], ◌∷◌, ◌++◌, length, Option, Some, None, pos, refl, ap, ◌∙◌, arith}
use Rattle.std.specs.Prelude.{◌==◌, ◌/◌, ◌^◌, not, cond, slice_get, count_by, IfSome}
use Rattle.std.proofs.lemmas.List.Sums.{sum_by-cons}
use Rattle.std.specs.Int.{w32, cast_signed}
use Rattle.std.specs.List.{flat_map, AllByRecursion}
use Rattle.insn.specs.Instruction.{Fits}
use Rattle.hook_page.proofs.Names.{Insn, Alu64Imm, Alu32Imm, Alu64Reg, Alu32Reg, Divide, Remainder, Negate, MoveSigned, SwapBytes, LoadWide, Load, LoadSigned, StoreReg, StoreImm, Jump64IfImm, Jump64IfReg}
use Rattle.hook_page.proofs.Names.{Jump32IfImm, Jump32IfReg, Imm, W32, W64, One, ToLittle}
use Rattle.insn.specs.declared.operation.AluOp.TheVariants.{Add}
use Rattle.insn.specs.declared.operation.Cond.TheVariants.{Eq}
use Rattle.insn.specs.declared.operation.Extension.TheVariants.{From8To64}
use Rattle.insn.specs.declared.operation.SignedSize.TheVariants as signed
use Rattle.insn.specs.Program.{begins_at}
use Rattle.encoding.specs.declared.slot.Slot.{Slot}
use Rattle.encoding.specs.Spelling.{slots, slot, first_slot}

-- what stands at the second slot of an instruction of two
abbrev pub IsBehind : Insn → Option Slot → Type 0
IsBehind (LoadWide dst value) next = next ≡ Some (slot 0 0 0 (pos 0) (cast_signed w32 (value / 2 ^ 32)))
IsBehind i next = Unit {0}

-- what begins at a slot stands there, and where none begins there is no opcode
abbrev pub IsFound : Option Insn → Option Slot → Option Slot → Type 0
IsFound None None next = Unit {0}
IsFound None (Some s) next = s.opcode ≡ 0
IsFound (Some i) here next = (here ≡ Some (first_slot i)) × IsBehind i next

pub found : (program : List Insn) (k : ℕ) → IsFound (begins_at program k) (slice_get (flat_map slots program) k) (slice_get (flat_map slots program) (suc k))
found [] k = tt
found (LoadWide dst value ∷ rest) zero = (refl, refl)
found (LoadWide dst value ∷ rest) (suc zero) = refl
found (LoadWide dst value ∷ rest) (suc (suc k)) = found rest k
found (Divide width signedness dst (Imm imm) ∷ rest) zero = (refl, tt)
found (Divide width signedness dst (Imm imm) ∷ rest) (suc k) = found rest k
found (Remainder width signedness dst (Imm imm) ∷ rest) zero = (refl, tt)
found (Remainder width signedness dst (Imm imm) ∷ rest) (suc k) = found rest k
found (i ∷ rest) zero = (refl, tt)
found (i ∷ rest) (suc k) = found rest k

-- an instruction's opcode is not 0
pub has_opcode : (i : Insn) → ((first_slot i).opcode == 0) ≡ false
has_opcode (Alu64Imm Add dst imm) = refl
has_opcode (Alu64Reg Add dst src) = refl
has_opcode (Alu32Imm Add dst imm) = refl
has_opcode (Alu32Reg Add dst src) = refl
has_opcode (Divide W32 signedness dst (Imm imm)) = refl
has_opcode (Divide W64 signedness dst (Imm imm)) = refl
has_opcode (Remainder W32 signedness dst (Imm imm)) = refl
has_opcode (Remainder W64 signedness dst (Imm imm)) = refl
has_opcode (Negate W32 dst) = refl
has_opcode (MoveSigned From8To64 dst src) = refl
has_opcode (SwapBytes ToLittle bits dst) = refl
has_opcode (Load One dst src offset) = refl
has_opcode (LoadSigned signed.One dst src offset) = refl
has_opcode (StoreReg One dst src offset) = refl
has_opcode (StoreImm One dst offset imm) = refl
has_opcode (Jump64IfImm Eq dst offset imm) = refl
has_opcode (Jump64IfReg Eq dst src offset) = refl
has_opcode (Jump32IfImm Eq dst offset imm) = refl
has_opcode (Jump32IfReg Eq dst src offset) = refl
has_opcode i = refl

abbrev pub is_first : Slot → Bool
is_first i = not (i.opcode == 0)

-- so many slots begin an instruction as there are instructions
one_of : (x : Slot) (xs : List Slot) (b : Bool) → is_first x ≡ b → count_by is_first (x ∷ xs) ≡ cond b 1 0 + count_by is_first xs
one_of x xs b e = rw (sum_by-cons (λ y. cond (is_first y) 1 0) x xs, e) refl

first_counts : (x : Slot) (xs : List Slot) → is_first x ≡ true → count_by is_first (x ∷ xs) ≡ suc (count_by is_first xs)
first_counts x xs e = omega (arith, one_of x xs true e)

other_passes : (x : Slot) (xs : List Slot) → is_first x ≡ false → count_by is_first (x ∷ xs) ≡ count_by is_first xs
other_passes x xs e = omega (arith, one_of x xs false e)

counted_one : (i : Insn) (xs : List Slot) → count_by is_first (slots i ++ xs) ≡ suc (count_by is_first xs)
counted_one (LoadWide dst value) xs =
    let half = slot 0 0 0 (pos 0) (cast_signed w32 (value / 2 ^ 32)) in
    first_counts (first_slot (LoadWide dst value)) (half ∷ xs) refl ∙ ap suc (other_passes half xs refl)
counted_one (Divide width signedness dst (Imm imm)) xs = let i = Divide width signedness dst (Imm imm) in first_counts (first_slot i) xs (ap not (has_opcode i))
counted_one (Remainder width signedness dst (Imm imm)) xs = let i = Remainder width signedness dst (Imm imm) in first_counts (first_slot i) xs (ap not (has_opcode i))
counted_one i xs = first_counts (first_slot i) xs (ap not (has_opcode i))

pub counted : (program : List Insn) → count_by is_first (flat_map slots program) ≡ length program
counted [] = refl
counted (i ∷ rest) = counted_one i (flat_map slots rest) ∙ ap suc (counted rest)

-- what begins in a program is an instruction of it
pub fits_at : (program : List Insn) (k : ℕ) → AllByRecursion Fits program → IfSome (begins_at program k) Fits
fits_at [] k all = tt
fits_at (i ∷ rest) zero all = all.0
fits_at (LoadWide dst value ∷ rest) (suc zero) all = tt
fits_at (LoadWide dst value ∷ rest) (suc (suc k)) all = fits_at rest k all.1
fits_at (i ∷ rest) (suc k) all = fits_at rest k all.1
