-- The one spelling of a program: the rows of the table of opcodes, one after the other (RFC 9669, sections 3 to 5).
use Rattle.std.specs.Prelude.{◌≡◌, ◌≢◌, ◌⊎◌, ℕ, ◌+◌, ◌*◌, ◌/◌, ◌%◌, ◌^◌, ◌<◌, ◌≤◌, ◌==◌, Bool, if◌then◌else◌, ℤ, pos, FitsSigned, List, [], ◌∷◌, ◌++◌, get_or, length}
use Rattle.std.specs.Int.{w16, w32, cast_signed, cast_unsigned, to_le_bytes}
use Rattle.std.specs.List.{flat_map, list_any, AllByRecursion}
use Rattle.insn.specs.declared.operation.Width.{Width}
use Rattle.insn.specs.declared.operation.Width.TheVariants.{W32, W64}
use Rattle.insn.specs.declared.operation.Signedness.{Signedness}
use Rattle.insn.specs.declared.operation.Signedness.TheVariants.{Unsigned, Signed}
use Rattle.insn.specs.declared.operation.Size.{Size}
use Rattle.insn.specs.declared.operation.Size.TheVariants.{One, Two, Four, Eight}
use Rattle.insn.specs.declared.operation.SignedSize.{SignedSize}
use Rattle.insn.specs.declared.operation.AluOp.{AluOp}
use Rattle.insn.specs.declared.operation.AluOp.TheVariants.{Add, Sub, Mul, Or, And, Lsh, Rsh, Xor, Mov, Arsh}
use Rattle.insn.specs.declared.operation.Cond.{Cond}
use Rattle.insn.specs.declared.operation.Cond.TheVariants.{Eq, Gt, Ge, Set, Ne, Sgt, Sge, Lt, Le, Slt, Sle}
use Rattle.insn.specs.declared.operation.Extension.{Extension}
use Rattle.insn.specs.declared.operation.Extension.TheVariants.{From8To64, From16To64, From32To64, From8To32, From16To32}
use Rattle.insn.specs.declared.operation.SwapKind.{SwapKind}
use Rattle.insn.specs.declared.operation.SwapKind.TheVariants.{ToLittle, ToBig, Swap}
use Rattle.insn.specs.declared.operation.SwapBits.{SwapBits}
use Rattle.insn.specs.declared.operation.SwapBits.TheVariants.{B16, B32, B64}
use Rattle.insn.specs.declared.instruction.Operand.TheVariants.{Reg, Imm}
use Rattle.insn.specs.declared.instruction.Insn.{Insn}
use Rattle.insn.specs.declared.instruction.Insn.TheVariants.{Alu64Imm, Alu64Reg, Alu32Imm, Alu32Reg, Divide, Remainder, Negate, MoveSigned, SwapBytes, LoadWide, Load, LoadSigned, StoreReg, StoreImm, Jump, JumpLong, Jump64IfImm, Jump64IfReg, Jump32IfImm, Jump32IfReg, Exit}
use Rattle.encoding.specs.declared.slot.Slot.{Slot}
use Rattle.encoding.specs.declared.slot_fault.SlotFault.{SlotFault}
use Rattle.encoding.specs.declared.slot_fault.SlotFault.TheVariants.{UnknownOpcode, BadRegister, NonzeroField, TruncatedWide, Atomic, Call, LegacyLoad}
use Rattle.insn.specs.declared.fault.InsnFault.{InsnFault}
use Rattle.insn.specs.declared.fault.InsnFault.TheVariants as faults
use Rattle.insn.specs.Instruction.{extended_width, read_size, reg_number, slots_of, Fits}
use Rattle.insn.specs.Program.{IsProgram, SLOT_LIMIT, slot_count}

-- ---- slots

-- the eight bytes of a slot, little-endian
abbrev pub slot_bytes : Slot → List ℕ
slot_bytes s =
    s.opcode ∷ (s.src * 16 + s.dst) ∷ (to_le_bytes w16 (cast_unsigned w16 s.offset) ++ to_le_bytes w32 (cast_unsigned w32 s.imm))

-- each field has its own size
pub record IsSlot (s : Slot) : Type 0 where
  pub opcode : s.opcode < 256
  pub dst : s.dst < 16
  pub src : s.src < 16
  pub offset : FitsSigned w16 s.offset
  pub imm : FitsSigned w32 s.imm

-- ---- opcodes

-- an operation on a register and a number, and one on two registers
abbrev pub imm_opcode : Width → ℕ → ℕ
imm_opcode W32 code = 0x04 + 16 * code
imm_opcode W64 code = 0x07 + 16 * code

abbrev pub reg_opcode : Width → ℕ → ℕ
reg_opcode W32 code = 0x0c + 16 * code
reg_opcode W64 code = 0x0f + 16 * code

-- a conditional jump on a register and a number, and one on two registers
abbrev pub jump_imm_opcode : Width → ℕ → ℕ
jump_imm_opcode W32 code = 0x06 + 16 * code
jump_imm_opcode W64 code = 0x05 + 16 * code

abbrev pub jump_reg_opcode : Width → ℕ → ℕ
jump_reg_opcode W32 code = 0x0e + 16 * code
jump_reg_opcode W64 code = 0x0d + 16 * code

-- the high half of an operation's opcode
abbrev pub op_code : AluOp → ℕ
op_code Add = 0x0
op_code Sub = 0x1
op_code Mul = 0x2
op_code Or = 0x4
op_code And = 0x5
op_code Lsh = 0x6
op_code Rsh = 0x7
op_code Xor = 0xa
op_code Mov = 0xb
op_code Arsh = 0xc

-- the high half of the opcode of a division, of a remainder, of a negation and of a byte swap
abbrev pub DIVIDE : ℕ
DIVIDE = 0x3

abbrev pub REMAINDER : ℕ
REMAINDER = 0x9

abbrev pub NEGATE : ℕ
NEGATE = 0x8

abbrev pub SWAP : ℕ
SWAP = 0xd

-- the high half of a conditional jump's opcode
abbrev pub cond_code : Cond → ℕ
cond_code Eq = 0x1
cond_code Gt = 0x2
cond_code Ge = 0x3
cond_code Set = 0x4
cond_code Ne = 0x5
cond_code Sgt = 0x6
cond_code Sge = 0x7
cond_code Lt = 0xa
cond_code Le = 0xb
cond_code Slt = 0xc
cond_code Sle = 0xd

-- the offset field of a division and of a move with sign extension
abbrev pub signedness_code : Signedness → ℤ
signedness_code Unsigned = pos 0
signedness_code Signed = pos 1

abbrev pub extension_code : Extension → ℤ
extension_code From8To64 = pos 8
extension_code From16To64 = pos 16
extension_code From32To64 = pos 32
extension_code From8To32 = pos 8
extension_code From16To32 = pos 16

abbrev pub extension_opcode : Extension → ℕ
extension_opcode extension = reg_opcode (extended_width extension) (op_code Mov)

abbrev pub swap_opcode : SwapKind → ℕ
swap_opcode ToLittle = imm_opcode W32 SWAP
swap_opcode ToBig = reg_opcode W32 SWAP
swap_opcode Swap = imm_opcode W64 SWAP

abbrev pub swap_code : SwapBits → ℤ
swap_code B16 = pos 16
swap_code B32 = pos 32
swap_code B64 = pos 64

-- what a size adds to an opcode
abbrev pub size_code : Size → ℕ
size_code One = 0x10
size_code Two = 0x08
size_code Four = 0x00
size_code Eight = 0x18

abbrev pub load_opcode : Size → ℕ
load_opcode size = 0x61 + size_code size

abbrev pub load_signed_opcode : SignedSize → ℕ
load_signed_opcode size = 0x81 + size_code (read_size size)

abbrev pub store_imm_opcode : Size → ℕ
store_imm_opcode size = 0x62 + size_code size

abbrev pub store_reg_opcode : Size → ℕ
store_reg_opcode size = 0x63 + size_code size

-- the wide load, the two plain jumps and the exit
abbrev pub LOAD_WIDE : ℕ
LOAD_WIDE = 0x18

abbrev pub JUMP : ℕ
JUMP = 0x05

abbrev pub JUMP_LONG : ℕ
JUMP_LONG = 0x06

abbrev pub EXIT : ℕ
EXIT = 0x95

-- ---- the table: the slots of each instruction

abbrev pub slot : ℕ → ℕ → ℕ → ℤ → ℤ → Slot
slot opcode dst src offset imm = record { opcode = opcode; dst = dst; src = src; offset = offset; imm = imm }

abbrev pub slots : Insn → List Slot
slots (Alu64Imm op dst imm) = slot (imm_opcode W64 (op_code op)) (reg_number dst) 0 (pos 0) imm ∷ []
slots (Alu64Reg op dst src) = slot (reg_opcode W64 (op_code op)) (reg_number dst) (reg_number src) (pos 0) (pos 0) ∷ []
slots (Alu32Imm op dst imm) = slot (imm_opcode W32 (op_code op)) (reg_number dst) 0 (pos 0) imm ∷ []
slots (Alu32Reg op dst src) = slot (reg_opcode W32 (op_code op)) (reg_number dst) (reg_number src) (pos 0) (pos 0) ∷ []
slots (Divide width signedness dst (Imm imm)) = slot (imm_opcode width DIVIDE) (reg_number dst) 0 (signedness_code signedness) imm ∷ []
slots (Divide width signedness dst (Reg src)) = slot (reg_opcode width DIVIDE) (reg_number dst) (reg_number src) (signedness_code signedness) (pos 0) ∷ []
slots (Remainder width signedness dst (Imm imm)) = slot (imm_opcode width REMAINDER) (reg_number dst) 0 (signedness_code signedness) imm ∷ []
slots (Remainder width signedness dst (Reg src)) = slot (reg_opcode width REMAINDER) (reg_number dst) (reg_number src) (signedness_code signedness) (pos 0) ∷ []
slots (Negate width dst) = slot (imm_opcode width NEGATE) (reg_number dst) 0 (pos 0) (pos 0) ∷ []
slots (MoveSigned extension dst src) = slot (extension_opcode extension) (reg_number dst) (reg_number src) (extension_code extension) (pos 0) ∷ []
slots (SwapBytes kind bits dst) = slot (swap_opcode kind) (reg_number dst) 0 (pos 0) (swap_code bits) ∷ []
slots (LoadWide dst value) =
    slot LOAD_WIDE (reg_number dst) 0 (pos 0) (cast_signed w32 (value % 2 ^ 32)) ∷ slot 0 0 0 (pos 0) (cast_signed w32 (value / 2 ^ 32)) ∷ []
slots (Load size dst src offset) = slot (load_opcode size) (reg_number dst) (reg_number src) offset (pos 0) ∷ []
slots (LoadSigned size dst src offset) = slot (load_signed_opcode size) (reg_number dst) (reg_number src) offset (pos 0) ∷ []
slots (StoreReg size dst src offset) = slot (store_reg_opcode size) (reg_number dst) (reg_number src) offset (pos 0) ∷ []
slots (StoreImm size dst offset imm) = slot (store_imm_opcode size) (reg_number dst) 0 offset imm ∷ []
slots (Jump offset) = slot JUMP 0 0 offset (pos 0) ∷ []
slots (JumpLong offset) = slot JUMP_LONG 0 0 (pos 0) offset ∷ []
slots (Jump64IfImm cond dst offset imm) = slot (jump_imm_opcode W64 (cond_code cond)) (reg_number dst) 0 offset imm ∷ []
slots (Jump64IfReg cond dst src offset) = slot (jump_reg_opcode W64 (cond_code cond)) (reg_number dst) (reg_number src) offset (pos 0) ∷ []
slots (Jump32IfImm cond dst offset imm) = slot (jump_imm_opcode W32 (cond_code cond)) (reg_number dst) 0 offset imm ∷ []
slots (Jump32IfReg cond dst src offset) = slot (jump_reg_opcode W32 (cond_code cond)) (reg_number dst) (reg_number src) offset (pos 0) ∷ []
slots Exit = slot EXIT 0 0 (pos 0) (pos 0) ∷ []

-- the first of an instruction's slots
abbrev pub first_slot : Insn → Slot
first_slot i = get_or (slots i) 0 (slot 0 0 0 (pos 0) (pos 0))

-- the bytes of some instructions
abbrev pub spelling : List Insn → List ℕ
spelling insns = flat_map slot_bytes (flat_map slots insns)

-- ---- the first fault of an instruction

abbrev pub is_one_of : List ℕ → ℕ → Bool
is_one_of numbers n = list_any (λ m. m == n) numbers

-- the name of an opcode that no instruction has
abbrev pub refused_as : ℕ → SlotFault
refused_as opcode =
    if is_one_of (0xc3 ∷ 0xdb ∷ []) opcode then Atomic
    else if opcode == 0x85 then Call
    else if is_one_of (0x20 ∷ 0x28 ∷ 0x30 ∷ 0x40 ∷ 0x48 ∷ 0x50 ∷ []) opcode then LegacyLoad
    else UnknownOpcode

-- an instruction has this opcode
abbrev pub IsOpcode : ℕ → Type 0
IsOpcode opcode = (i : Insn) × ((first_slot i).opcode ≡ opcode)

-- an instruction with this opcode takes more slots than there are
abbrev pub IsCutOff : Slot → List ℕ → Type 0
IsCutOff s behind = (i : Insn) × ((first_slot i).opcode ≡ s.opcode) × (8 + length behind < 8 * slots_of i)

-- instructions with this opcode have a register in a field: in one of them it is not R0
abbrev pub HasRegister : (Slot → ℕ) → ℕ → Type 0
HasRegister field opcode = (i : Insn) × ((first_slot i).opcode ≡ opcode) × (1 ≤ field (first_slot i))

-- a field in which a register stands has a number above 10
abbrev pub HasBadRegister : Slot → Type 0
HasBadRegister s = (HasRegister (λ x. x.dst) s.opcode × (10 < s.dst)) ⊎ (HasRegister (λ x. x.src) s.opcode × (10 < s.src))

-- no instruction begins with a slot and what is behind it
abbrev pub BeginsNone : Slot → List ℕ → Type 0
BeginsNone s behind = (i : Insn) (rest : List ℕ) → Fits i → slot_bytes s ++ behind ≢ spelling (i ∷ []) ++ rest

-- The opcode counts first, then the second slot of a wide load that is not there, then the registers, then the other fields.
abbrev pub IsSlotFault : Slot → List ℕ → SlotFault → Type 0
IsSlotFault s behind TruncatedWide = IsCutOff s behind
IsSlotFault s behind BadRegister = ¬ IsCutOff s behind × HasBadRegister s
IsSlotFault s behind NonzeroField = IsOpcode s.opcode × ¬ IsCutOff s behind × ¬ HasBadRegister s × BeginsNone s behind
IsSlotFault s behind fault = ¬ IsOpcode s.opcode × (refused_as s.opcode ≡ fault)

-- ---- programs

-- the bytes are a program's
pub record Spells (bytes : List ℕ) (program : List Insn) : Type 0 where
  pub in_bounds : IsProgram program
  pub fit : AllByRecursion Fits program
  pub spelled : bytes ≡ spelling program

-- a fault at a slot
abbrev pub slot_fault_at : SlotFault → ℕ → InsnFault
slot_fault_at UnknownOpcode at = faults.UnknownOpcode at
slot_fault_at BadRegister at = faults.BadRegister at
slot_fault_at NonzeroField at = faults.NonzeroField at
slot_fault_at TruncatedWide at = faults.TruncatedWide at
slot_fault_at Atomic at = faults.Atomic at
slot_fault_at Call at = faults.Call at
slot_fault_at LegacyLoad at = faults.LegacyLoad at

-- the first instruction that is none has this fault
pub record FaultAt (bytes : List ℕ) (fault : InsnFault) : Type 0 where
  pub before : List Insn
  pub here : Slot
  pub rest : List ℕ
  pub name : SlotFault
  pub fit : AllByRecursion Fits before
  pub sizes : IsSlot here
  pub spelled : bytes ≡ spelling before ++ (slot_bytes here ++ rest)
  pub faulty : IsSlotFault here rest name
  pub at_slot : fault ≡ slot_fault_at name (slot_count before)

-- as many bytes as some slots have, and no more than a program may have
pub record IsWhole (bytes : List ℕ) : Type 0 where
  pub some : 1 ≤ length bytes
  pub slots : length bytes % 8 ≡ 0
  pub short : length bytes ≤ 8 * SLOT_LIMIT

-- The first fault: no bytes, then a bad length, then too many slots, then the first faulty instruction.
abbrev pub FirstInsnFault : List ℕ → InsnFault → Type 0
FirstInsnFault bytes faults.Empty = length bytes ≡ 0
FirstInsnFault bytes faults.BadLength = (1 ≤ length bytes) × (1 ≤ length bytes % 8)
FirstInsnFault bytes faults.TooLong = (length bytes % 8 ≡ 0) × (8 * SLOT_LIMIT < length bytes)
FirstInsnFault bytes faults.Memory = Unit {0}
FirstInsnFault bytes fault = IsWhole bytes × FaultAt bytes fault
