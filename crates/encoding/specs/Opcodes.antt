-- Working definitions, for proofs alone: the table of opcodes by their halves, as a decoder goes through it.
-- What it refuses IsSlotFault refuses, by the law slots_have_the_faults_of_the_table.
use Rattle.std.specs.Prelude.{◌≡◌, ℕ, ◌+◌, ◌-◌, ◌*◌, ◌≤◌, ◌/◌, ◌%◌, ◌==◌, ◌&&◌, ◌||◌, not, nat_lt, Bool, true, false, if◌then◌else◌, ℤ, pos, negsuc, List, [], ◌∷◌, ◌++◌, length, map, take, Option, Some, None, Result, MatchResult}
use Rattle.std.specs.List.{list_any}
use Rattle.std.specs.Option.{option_or}
use Rattle.insn.specs.declared.operation.Width.{Width}
use Rattle.insn.specs.declared.operation.Width.TheVariants.{W32, W64}
use Rattle.insn.specs.declared.operation.Size.{Size}
use Rattle.insn.specs.declared.operation.Size.TheVariants.{One, Two, Four, Eight}
use Rattle.insn.specs.declared.operation.SignedSize.TheVariants as signed
use Rattle.insn.specs.declared.operation.AluOp.{AluOp}
use Rattle.insn.specs.declared.operation.Cond.{Cond}
use Rattle.insn.specs.declared.operation.AluOp.TheVariants.{Add, Sub, Mul, Or, And, Lsh, Rsh, Xor, Mov, Arsh}
use Rattle.insn.specs.declared.operation.Cond.TheVariants.{Eq, Gt, Ge, Set, Ne, Sgt, Sge, Lt, Le, Slt, Sle}
use Rattle.insn.specs.declared.instruction.Insn.{Insn}
use Rattle.insn.specs.Instruction.{slots_of, Fits}
use Rattle.encoding.specs.declared.slot.Slot.{Slot}
use Rattle.encoding.specs.declared.slot_fault.SlotFault.{SlotFault}
use Rattle.encoding.specs.declared.slot_fault.SlotFault.TheVariants.{UnknownOpcode, BadRegister, NonzeroField, TruncatedWide}
use Rattle.encoding.specs.Spelling.{cond_code, imm_opcode, is_one_of, jump_imm_opcode, jump_reg_opcode, load_opcode, load_signed_opcode, op_code, refused_as, reg_opcode, slot_bytes, slots, spelling, store_imm_opcode, store_reg_opcode, DIVIDE, EXIT, JUMP, JUMP_LONG, LOAD_WIDE, NEGATE, REMAINDER, SWAP}

-- ---- rows

-- what a row of the table says of a field: it is 0, it is used, or it has one of some values
pub data FieldUse : Type 0 where
  Unused : FieldUse
  Used : FieldUse
  OneOf : List ℕ → FieldUse

pub record Fields : Type 0 where
  pub dst : FieldUse
  pub src : FieldUse
  pub offset : FieldUse
  pub imm : FieldUse

abbrev pub uses : FieldUse → FieldUse → FieldUse → FieldUse → Fields
uses dst src offset imm = record { dst = dst; src = src; offset = offset; imm = imm }

abbrev pub ops : List AluOp
ops = Add ∷ Sub ∷ Mul ∷ Or ∷ And ∷ Lsh ∷ Rsh ∷ Xor ∷ Mov ∷ Arsh ∷ []

abbrev pub conds : List Cond
conds = Eq ∷ Gt ∷ Ge ∷ Set ∷ Ne ∷ Sgt ∷ Sge ∷ Lt ∷ Le ∷ Slt ∷ Sle ∷ []

abbrev pub sizes : List Size
sizes = One ∷ Two ∷ Four ∷ Eight ∷ []

-- the high halves of the opcodes of operations, and of jumps
abbrev pub op_codes : List ℕ
op_codes = map op_code ops

abbrev pub cond_codes : List ℕ
cond_codes = map cond_code conds

-- the offset of a move of a register: 0, or the bits of one with sign extension
abbrev pub move_offsets : Width → List ℕ
move_offsets W32 = 0 ∷ 8 ∷ 16 ∷ []
move_offsets W64 = 0 ∷ 8 ∷ 16 ∷ 32 ∷ []

-- the fields of an opcode whose high half is one of a row's
abbrev pub code_row : List ℕ → Fields → ℕ → Option Fields
code_row codes f code = if is_one_of codes code then Some f else None

-- a byte swap to an order is in the class of 32 bits, and works on one register
abbrev pub swap_fields : Width → Option Fields
swap_fields W32 = Some (uses Used Unused Unused (OneOf (16 ∷ 32 ∷ 64 ∷ [])))
swap_fields W64 = None

-- operations on a register and a number, by the high half of the opcode
abbrev pub imm_fields : ℕ → Option Fields
imm_fields code =
    if is_one_of (DIVIDE ∷ REMAINDER ∷ []) code then Some (uses Used Unused (OneOf (0 ∷ 1 ∷ [])) Used)
    else if code == NEGATE then Some (uses Used Unused Unused Unused)
    else if code == SWAP then Some (uses Used Unused Unused (OneOf (16 ∷ 32 ∷ 64 ∷ [])))
    else code_row op_codes (uses Used Unused Unused Used) code

-- operations on two registers
abbrev pub reg_fields : Width → ℕ → Option Fields
reg_fields width code =
    if is_one_of (DIVIDE ∷ REMAINDER ∷ []) code then Some (uses Used Used (OneOf (0 ∷ 1 ∷ [])) Unused)
    else if code == op_code Mov then Some (uses Used Used (OneOf (move_offsets width)) Unused)
    else if code == SWAP then swap_fields width
    else code_row op_codes (uses Used Used Unused Unused) code

-- loads and stores
abbrev pub memory_fields : ℕ → Option Fields
memory_fields opcode =
    if is_one_of (map load_opcode sizes ++ map load_signed_opcode (signed.One ∷ signed.Two ∷ signed.Four ∷ []) ++ map store_reg_opcode sizes) opcode
    then Some (uses Used Used Used Unused)
    else code_row (map store_imm_opcode sizes) (uses Used Unused Used Used) opcode

-- how an opcode uses the fields, where it is an instruction's: those that stand alone, and the others by the low half
unfoldable pub fields_of : ℕ → Option Fields
fields_of opcode =
    if opcode == LOAD_WIDE then Some (uses Used Unused Unused Used)
    else if opcode == JUMP then Some (uses Unused Unused Used Unused)
    else if opcode == JUMP_LONG then Some (uses Unused Unused Unused Used)
    else if opcode == EXIT then Some (uses Unused Unused Unused Unused)
    else if opcode % 16 == imm_opcode W32 0 then imm_fields (opcode / 16)
    else if opcode % 16 == imm_opcode W64 0 then imm_fields (opcode / 16)
    else if opcode % 16 == reg_opcode W32 0 then reg_fields W32 (opcode / 16)
    else if opcode % 16 == reg_opcode W64 0 then reg_fields W64 (opcode / 16)
    else if opcode % 16 == jump_imm_opcode W32 0 then code_row cond_codes (uses Used Unused Used Used) (opcode / 16)
    else if opcode % 16 == jump_imm_opcode W64 0 then code_row cond_codes (uses Used Unused Used Used) (opcode / 16)
    else if opcode % 16 == jump_reg_opcode W32 0 then code_row cond_codes (uses Used Used Used Unused) (opcode / 16)
    else if opcode % 16 == jump_reg_opcode W64 0 then code_row cond_codes (uses Used Used Used Unused) (opcode / 16)
    else memory_fields opcode

-- a field that is not used is 0, and one of some values has one of them
abbrev pub allows : FieldUse → ℤ → Bool
allows Used n = true
allows Unused (pos n) = n == 0
allows Unused (negsuc n) = false
allows (OneOf values) (pos n) = is_one_of values n
allows (OneOf values) (negsuc n) = false

-- the number of a register that is used is above 10
abbrev pub is_above : FieldUse → ℕ → Bool
is_above Unused n = false
is_above field n = nat_lt 10 n

abbrev pub is_bad_register : Fields → Slot → Bool
is_bad_register f s = is_above f.dst s.dst || is_above f.src s.src

-- a field has a value that its row lacks
abbrev pub is_bad_field : Fields → Slot → Bool
is_bad_field f s = not (allows f.dst (pos s.dst) && allows f.src (pos s.src) && allows f.offset s.offset && allows f.imm s.imm)

-- the fault of a slot by itself: the registers count before the other fields
abbrev pub field_fault : Fields → Slot → Option SlotFault
field_fault f s = if is_bad_register f s then Some BadRegister else if is_bad_field f s then Some NonzeroField else None

-- the second slot of a wide load begins with four bytes, of which one is not 0
abbrev pub is_bad_second : List ℕ → Bool
is_bad_second bytes = list_any (λ b. nat_lt 0 b) (take 4 bytes)

-- a wide load lacks its second slot, or one of its two has a fault
abbrev pub wide_fault : Fields → Slot → List ℕ → Option SlotFault
wide_fault f s behind =
    if nat_lt (length behind) 8 then Some TruncatedWide
    else option_or (field_fault f s) (if is_bad_second behind then Some NonzeroField else None)

abbrev pub fault_with : Option Fields → Slot → List ℕ → Option SlotFault
fault_with None s behind = Some (refused_as s.opcode)
fault_with (Some f) s behind = if s.opcode == LOAD_WIDE then wide_fault f s behind else field_fault f s

-- The opcode counts first, then the second slot of a wide load that is not there, then the registers, then the other fields.
abbrev pub slot_fault : Slot → List ℕ → Option SlotFault
slot_fault s behind = fault_with (fields_of s.opcode) s behind

-- ---- what is read

-- a slot is all of an instruction
abbrev pub IsAllOf : Insn → Slot → Type 0
IsAllOf i s = (slots i ≡ s ∷ []) × Fits i

-- a slot and the bytes behind it begin with an instruction
pub record BeginsWith (s : Slot) (behind : List ℕ) (i : Insn) : Type 0 where
  pub fit : Fits i
  pub room : 8 * slots_of i ≤ 8 + length behind
  pub spelled : spelling (i ∷ []) ≡ slot_bytes s ++ take (8 * (slots_of i - 1)) behind

-- a slot's opcode is of these and these fields, by its high half, and none with a name of its own among the refused
abbrev pub IsRow : Slot → (ℕ → ℕ) → (ℕ → Option Fields) → Type 0
IsRow s opcodes fields = (s.opcode ≡ opcodes (s.opcode / 16)) × (refused_as s.opcode ≡ UnknownOpcode) × (fields_of s.opcode ≡ fields (s.opcode / 16))

-- a slot is read whole, or refused with its fault
abbrev pub IsRead : Result Insn SlotFault → Slot → Option SlotFault → Type 0
IsRead r s fault = MatchResult r (λ i. IsAllOf i s) (λ f. fault ≡ Some f)
