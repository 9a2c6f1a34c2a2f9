-- The instruction in front of some slots is read back, and the table finds no fault there.
use Rattle.std.proofs.Common.{◌≡◌, ℕ, ◌+◌, ◌*◌, ◌/◌, ◌%◌, ◌^◌, cond, eqb, false, List, [], ◌∷◌, ◌++◌, length, map, drop, Option, Some, None, get_or, refl, ap, arith, w32, ℤ, pos}
use Rattle.encoding.proofs.Names.{◌==◌, if◌then◌else◌, nat_lt, negsuc, cast_signed, cast_unsigned, flat_map, le-ltb, of_z-to_z, RegNo, R0, R1, R2, R3, R4, R5, R6, R7, R8, R9, R10, Unsigned, Signed}
use Rattle.encoding.proofs.Names.{From8To64, From16To64, From32To64, From8To32, From16To32, B16, B32, B64, Reg, Imm, Insn, Alu64Imm, Alu64Reg, Alu32Imm, Alu32Reg, Divide, Remainder, Negate}
use Rattle.encoding.proofs.Names.{MoveSigned, SwapBytes, LoadWide, Load, LoadSigned, StoreReg, StoreImm, Jump, JumpLong, Jump64IfImm, Jump64IfReg, Jump32IfImm, Jump32IfReg, Exit, Slot, reg_number}
use Rattle.encoding.proofs.Names.{Fits, first_slot, slots, slot_bytes, conds, ops, sizes, slot_fault}
use Rattle.encoding.specs.Opcodes.{fields_of}
use Rattle.insn.specs.declared.operation.Width.TheVariants.{W32, W64}
use Rattle.insn.specs.declared.operation.Signedness.{Signedness}
use Rattle.insn.specs.declared.operation.AluOp.TheVariants.{Add}
use Rattle.insn.specs.declared.operation.Cond.TheVariants.{Eq}
use Rattle.insn.specs.declared.operation.Extension.{Extension}
use Rattle.insn.specs.declared.operation.SwapKind.TheVariants.{ToLittle, ToBig, Swap}
use Rattle.insn.specs.declared.operation.Size.TheVariants.{One}
use Rattle.insn.specs.declared.operation.SignedSize.TheVariants as signed

-- ---- an instruction of each opcode

-- instructions of all opcodes but the exit's, with R1 wherever a register stands
abbrev examples : List Insn
examples =
    map (λ op. Alu64Imm op R1 (pos 0)) ops ++ (map (λ op. Alu64Reg op R1 R1) ops
    ++ (map (λ op. Alu32Imm op R1 (pos 0)) ops ++ (map (λ op. Alu32Reg op R1 R1) ops
    ++ (map (λ cond. Jump64IfImm cond R1 (pos 0) (pos 0)) conds ++ (map (λ cond. Jump64IfReg cond R1 R1 (pos 0)) conds
    ++ (map (λ cond. Jump32IfImm cond R1 (pos 0) (pos 0)) conds ++ (map (λ cond. Jump32IfReg cond R1 R1 (pos 0)) conds
    ++ (map (λ size. Load size R1 R1 (pos 0)) sizes ++ (map (λ size. StoreReg size R1 R1 (pos 0)) sizes ++ (map (λ size. StoreImm size R1 (pos 0) (pos 0)) sizes
    ++ (map (λ size. LoadSigned size R1 R1 (pos 0)) (signed.One ∷ signed.Two ∷ signed.Four ∷ [])
    ++ (Divide W32 Unsigned R1 (Imm (pos 0)) ∷ Divide W64 Unsigned R1 (Imm (pos 0)) ∷ Divide W32 Unsigned R1 (Reg R1) ∷ Divide W64 Unsigned R1 (Reg R1)
    ∷ Remainder W32 Unsigned R1 (Imm (pos 0)) ∷ Remainder W64 Unsigned R1 (Imm (pos 0)) ∷ Remainder W32 Unsigned R1 (Reg R1) ∷ Remainder W64 Unsigned R1 (Reg R1)
    ∷ Negate W32 R1 ∷ Negate W64 R1 ∷ SwapBytes ToLittle B16 R1 ∷ SwapBytes ToBig B16 R1 ∷ SwapBytes Swap B16 R1
    ∷ LoadWide R1 0 ∷ Jump (pos 0) ∷ JumpLong (pos 0) ∷ []))))))))))))

abbrev first_with : ℕ → List Insn → Insn
first_with opcode [] = Exit
first_with opcode (i ∷ rest) = if (first_slot i).opcode == opcode then i else first_with opcode rest

unfoldable pub example : ℕ → Insn
example opcode = first_with opcode examples

-- ---- reading

-- the first of some answers at a number, and otherwise another one
abbrev among : {A : Type 0} → List (ℕ × A) → A → ℕ → A
among [] other n = other
among (x ∷ xs) other n = cond (eqb n x.0) x.1 (among xs other n)

abbrev reg_of : ℕ → RegNo
reg_of = among ((0, R0) ∷ (1, R1) ∷ (2, R2) ∷ (3, R3) ∷ (4, R4) ∷ (5, R5) ∷ (6, R6) ∷ (7, R7) ∷ (8, R8) ∷ (9, R9) ∷ []) R10

-- a number that is not negative
abbrev amount : ℤ → ℕ
amount (pos n) = n
amount (negsuc n) = 0

abbrev signedness_of : ℤ → Signedness
signedness_of offset = among ((1, Signed) ∷ []) Unsigned (amount offset)

-- a move of a register with one of some extensions, or without
abbrev moved : List (ℕ × Extension) → Insn → Slot → Insn
moved extensions plain s = among (map (λ e. (e.0, MoveSigned e.1 (reg_of s.dst) (reg_of s.src))) extensions) plain (amount s.offset)

-- an instruction of an opcode, with the fields of a slot and of the slot behind it
abbrev filled : Insn → Slot → Slot → Insn
filled (Alu64Imm op dst imm) s t = Alu64Imm op (reg_of s.dst) s.imm
filled (Alu64Reg op dst src) s t = moved ((8, From8To64) ∷ (16, From16To64) ∷ (32, From32To64) ∷ []) (Alu64Reg op (reg_of s.dst) (reg_of s.src)) s
filled (Alu32Imm op dst imm) s t = Alu32Imm op (reg_of s.dst) s.imm
filled (Alu32Reg op dst src) s t = moved ((8, From8To32) ∷ (16, From16To32) ∷ []) (Alu32Reg op (reg_of s.dst) (reg_of s.src)) s
filled (Divide width signedness dst (Imm imm)) s t = Divide width (signedness_of s.offset) (reg_of s.dst) (Imm s.imm)
filled (Divide width signedness dst (Reg src)) s t = Divide width (signedness_of s.offset) (reg_of s.dst) (Reg (reg_of s.src))
filled (Remainder width signedness dst (Imm imm)) s t = Remainder width (signedness_of s.offset) (reg_of s.dst) (Imm s.imm)
filled (Remainder width signedness dst (Reg src)) s t = Remainder width (signedness_of s.offset) (reg_of s.dst) (Reg (reg_of s.src))
filled (Negate width dst) s t = Negate width (reg_of s.dst)
filled (MoveSigned extension dst src) s t = MoveSigned extension (reg_of s.dst) (reg_of s.src)
filled (SwapBytes kind bits dst) s t = SwapBytes kind (among ((16, B16) ∷ (32, B32) ∷ []) B64 (amount s.imm)) (reg_of s.dst)
filled (LoadWide dst value) s t = LoadWide (reg_of s.dst) (cast_unsigned w32 t.imm * 2 ^ 32 + cast_unsigned w32 s.imm)
filled (Load size dst src offset) s t = Load size (reg_of s.dst) (reg_of s.src) s.offset
filled (LoadSigned size dst src offset) s t = LoadSigned size (reg_of s.dst) (reg_of s.src) s.offset
filled (StoreReg size dst src offset) s t = StoreReg size (reg_of s.dst) (reg_of s.src) s.offset
filled (StoreImm size dst offset imm) s t = StoreImm size (reg_of s.dst) s.offset s.imm
filled (Jump offset) s t = Jump s.offset
filled (JumpLong offset) s t = JumpLong s.imm
filled (Jump64IfImm c dst offset imm) s t = Jump64IfImm c (reg_of s.dst) s.offset s.imm
filled (Jump64IfReg c dst src offset) s t = Jump64IfReg c (reg_of s.dst) (reg_of s.src) s.offset
filled (Jump32IfImm c dst offset imm) s t = Jump32IfImm c (reg_of s.dst) s.offset s.imm
filled (Jump32IfReg c dst src offset) s t = Jump32IfReg c (reg_of s.dst) (reg_of s.src) s.offset
filled Exit s t = Exit

-- the instruction in front
abbrev pub read : List Slot → Option Insn
read [] = None
read (s ∷ rest) = Some (filled (example s.opcode) s (get_or rest 0 s))

reg_back : (r : RegNo) → reg_of (reg_number r) ≡ r
reg_back R0 = refl
reg_back r = refl

reg_good : (r : RegNo) → nat_lt 10 (reg_number r) ≡ false
reg_good R0 = refl
reg_good r = refl

-- whatever follows it
pub record IsReread (i : Insn) (x : List Slot) (y : List ℕ) (d : Slot) : Type 0 where
  pub good : slot_fault (get_or (slots i ++ x) 0 d) (drop 8 (flat_map slot_bytes (slots i) ++ y)) ≡ None
  pub read : Fits i → read (slots i ++ x) ≡ Some i

pub reread : (i : Insn) (x : List Slot) (y : List ℕ) (d : Slot) → IsReread i x y d
unfolding fields_of example
reread (Alu64Imm Add dst imm) x y d = record { good = simp reg_good; read = λ fits. simp reg_back }
reread (Alu64Reg Add dst src) x y d = record { good = simp reg_good; read = λ fits. simp reg_back }
reread (Alu32Imm Add dst imm) x y d = record { good = simp reg_good; read = λ fits. simp reg_back }
reread (Alu32Reg Add dst src) x y d = record { good = simp reg_good; read = λ fits. simp reg_back }
reread (Divide W32 Unsigned dst (Imm imm)) x y d = record { good = simp reg_good; read = λ fits. simp reg_back }
reread (Divide W32 Signed dst (Imm imm)) x y d = record { good = simp reg_good; read = λ fits. simp reg_back }
reread (Divide W64 Unsigned dst (Imm imm)) x y d = record { good = simp reg_good; read = λ fits. simp reg_back }
reread (Divide W64 Signed dst (Imm imm)) x y d = record { good = simp reg_good; read = λ fits. simp reg_back }
reread (Remainder W32 Unsigned dst (Imm imm)) x y d = record { good = simp reg_good; read = λ fits. simp reg_back }
reread (Remainder W32 Signed dst (Imm imm)) x y d = record { good = simp reg_good; read = λ fits. simp reg_back }
reread (Remainder W64 Unsigned dst (Imm imm)) x y d = record { good = simp reg_good; read = λ fits. simp reg_back }
reread (Remainder W64 Signed dst (Imm imm)) x y d = record { good = simp reg_good; read = λ fits. simp reg_back }
reread (Negate W64 dst) x y d = record { good = simp reg_good; read = λ fits. simp reg_back }
reread (MoveSigned From8To64 dst src) x y d = record { good = simp reg_good; read = λ fits. simp reg_back }
reread (SwapBytes ToLittle B16 dst) x y d = record { good = simp reg_good; read = λ fits. simp reg_back }
reread (SwapBytes ToBig B16 dst) x y d = record { good = simp reg_good; read = λ fits. simp reg_back }
reread (SwapBytes Swap B16 dst) x y d = record { good = simp reg_good; read = λ fits. simp reg_back }
reread (LoadWide dst value) x y d = record {
  good = rw (reg_good dst, le-ltb (length (drop 8 (flat_map slot_bytes (slots (LoadWide dst value)) ++ y))) 8 (omega arith)) refl;
  read = λ fits.
      let high : cast_unsigned w32 (cast_signed w32 (value / 2 ^ 32)) ≡ value / 2 ^ 32 = of_z-to_z w32 (value / 2 ^ 32) (omega arith) in
      let low : cast_unsigned w32 (cast_signed w32 (value % 2 ^ 32)) ≡ value % 2 ^ 32 = of_z-to_z w32 (value % 2 ^ 32) (omega arith) in
      let whole : cast_unsigned w32 (cast_signed w32 (value / 2 ^ 32)) * 2 ^ 32 + cast_unsigned w32 (cast_signed w32 (value % 2 ^ 32)) ≡ value = rw (high, low) (omega arith) in
      rw (reg_back dst) (ap (λ (v : ℕ). Some (LoadWide dst v)) whole);
}
reread (Load One dst src offset) x y d = record { good = simp reg_good; read = λ fits. simp reg_back }
reread (LoadSigned signed.One dst src offset) x y d = record { good = simp reg_good; read = λ fits. simp reg_back }
reread (StoreReg One dst src offset) x y d = record { good = simp reg_good; read = λ fits. simp reg_back }
reread (StoreImm One dst offset imm) x y d = record { good = simp reg_good; read = λ fits. simp reg_back }
reread (Jump offset) x y d = record { good = refl; read = λ fits. refl }
reread (JumpLong offset) x y d = record { good = refl; read = λ fits. refl }
reread (Jump64IfImm Eq dst offset imm) x y d = record { good = simp reg_good; read = λ fits. simp reg_back }
reread (Jump64IfReg Eq dst src offset) x y d = record { good = simp reg_good; read = λ fits. simp reg_back }
reread (Jump32IfImm Eq dst offset imm) x y d = record { good = simp reg_good; read = λ fits. simp reg_back }
reread (Jump32IfReg Eq dst src offset) x y d = record { good = simp reg_good; read = λ fits. simp reg_back }
reread Exit x y d = record { good = refl; read = λ fits. refl }
reread i x y d = record { good = simp reg_good; read = λ fits. simp reg_back }
