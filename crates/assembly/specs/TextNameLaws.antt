-- Laws of the names of instructions: each says all of an instruction but its operands.
use Rattle.std.proofs.Common.{◌≡◌, All, arith, rules, suc, ℕ, Bool, true, false, cond, List, [], ◌∷◌, get_or, map, ℤ, pos, negsuc, Option, Some, refl, sym, ap, ap₂, ◌∙◌, subst, FitsSigned, w16, w32}
use Rattle.std.specs.List.{find, AllByRecursion}
use Rattle.std.specs.Str.{bytes_eq}
use Rattle.insn.specs.declared.register.RegNo.{RegNo}
use Rattle.insn.specs.declared.register.RegNo.TheVariants.{R0}
use Rattle.insn.specs.declared.operation.Width.TheVariants.{W32, W64}
use Rattle.insn.specs.declared.operation.Signedness.TheVariants.{Unsigned}
use Rattle.insn.specs.declared.operation.AluOp.TheVariants as alu
use Rattle.insn.specs.declared.operation.Cond.TheVariants.{Eq}
use Rattle.insn.specs.declared.operation.Extension.TheVariants.{From8To64}
use Rattle.insn.specs.declared.operation.SwapKind.TheVariants.{ToLittle, ToBig, Swap}
use Rattle.insn.specs.declared.operation.SwapBits.TheVariants.{B16}
use Rattle.insn.specs.declared.operation.Size.TheVariants.{One}
use Rattle.insn.specs.declared.operation.SignedSize.TheVariants as signed
use Rattle.assembly.specs.declared.mnemonic.Mnemonic.{Mnemonic}
use Rattle.assembly.specs.declared.mnemonic.Mnemonic.TheVariants as mnemonic
use Rattle.assembly.specs.declared.mnemonic.TheConstants.{MNEMONICS}
use Rattle.insn.specs.declared.instruction.Operand.{Operand as Source}
use Rattle.insn.specs.declared.instruction.Operand.TheVariants.{Reg, Imm}
use Rattle.insn.specs.declared.instruction.Insn.{Insn}
use Rattle.insn.specs.declared.instruction.Insn.TheVariants.{Alu64Imm, Alu64Reg, Alu32Imm, Alu32Reg, Divide, Remainder, Negate, MoveSigned, SwapBytes, LoadWide, Load, LoadSigned, StoreReg, StoreImm, Jump, JumpLong, Jump64IfImm, Jump64IfReg, Jump32IfImm, Jump32IfReg, Exit}
use Rattle.insn.specs.Instruction.{slots_of, Fits}
use Rattle.assembly.specs.Text.{Word, Operand, Register, Number, Target, mnemonic_of, mnemonic_name, name_of, operands_of}
use Rattle.assembly.specs.TextWordLaws.{is_target, IsShortNumber, IsShortOperand, short_of_16, short_of_32, PlainWord}

-- ---- each name is the name of one mnemonic

abbrev named : Word → Option Mnemonic
named word = find (λ m. bytes_eq (mnemonic_name m) word) MNEMONICS

-- its word names it alone, and is plain
record IsNamed (m : Mnemonic) : Type 0 where
  found : named (mnemonic_name m) ≡ Some m
  plain : PlainWord (mnemonic_name m)

is_named : (m : Mnemonic) → IsNamed m
is_named (mnemonic.Alu W32 alu.Add) = record { found = refl; plain = record { bytes = refl; some = refl } }
is_named (mnemonic.Divide W32 Unsigned) = record { found = refl; plain = record { bytes = refl; some = refl } }
is_named (mnemonic.Remainder W32 Unsigned) = record { found = refl; plain = record { bytes = refl; some = refl } }
is_named (mnemonic.JumpIf W32 Eq) = record { found = refl; plain = record { bytes = refl; some = refl } }
is_named (mnemonic.Alu W64 alu.Add) = record { found = refl; plain = record { bytes = refl; some = refl } }
is_named (mnemonic.Divide W64 Unsigned) = record { found = refl; plain = record { bytes = refl; some = refl } }
is_named (mnemonic.Remainder W64 Unsigned) = record { found = refl; plain = record { bytes = refl; some = refl } }
is_named (mnemonic.JumpIf W64 Eq) = record { found = refl; plain = record { bytes = refl; some = refl } }
is_named (mnemonic.Negate W32) = record { found = refl; plain = record { bytes = refl; some = refl } }
is_named (mnemonic.MoveSigned From8To64) = record { found = refl; plain = record { bytes = refl; some = refl } }
is_named (mnemonic.SwapBytes ToLittle B16) = record { found = refl; plain = record { bytes = refl; some = refl } }
is_named (mnemonic.SwapBytes ToBig B16) = record { found = refl; plain = record { bytes = refl; some = refl } }
is_named (mnemonic.SwapBytes Swap B16) = record { found = refl; plain = record { bytes = refl; some = refl } }
is_named (mnemonic.Load One) = record { found = refl; plain = record { bytes = refl; some = refl } }
is_named (mnemonic.LoadSigned signed.One) = record { found = refl; plain = record { bytes = refl; some = refl } }
is_named (mnemonic.StoreReg One) = record { found = refl; plain = record { bytes = refl; some = refl } }
is_named (mnemonic.StoreImm One) = record { found = refl; plain = record { bytes = refl; some = refl } }
is_named m = record { found = refl; plain = record { bytes = refl; some = refl } }

-- no name is that of two
pub mnemonic_name-injective : (m n : Mnemonic) → mnemonic_name m ≡ mnemonic_name n → m ≡ n
mnemonic_name-injective m n e = let both : Some m ≡ Some n = sym (is_named m).found ∙ ap named e ∙ (is_named n).found in cc

-- what holds of each entry of the table holds of each mnemonic
of_found : (P : Mnemonic → Type 0) (word : Word) (ms : List Mnemonic) (m : Mnemonic) → find (λ n. bytes_eq (mnemonic_name n) word) ms ≡ Some m → All P ms → P m
of_found P word [] m e h = absurd cc
of_found P word (n ∷ ms) m e h = step (bytes_eq (mnemonic_name n) word) e (λ more. of_found P word ms m more (λ k d l. h (suc k) d (omega (arith, l)))) (h 0 n (omega arith)) where
  step : (b : Bool) → cond b (Some n) (find (λ n. bytes_eq (mnemonic_name n) word) ms) ≡ Some m → (find (λ n. bytes_eq (mnemonic_name n) word) ms ≡ Some m → P m) → P n → P m
  step true e rest here = let same : n ≡ m = cc in subst P same here
  step false e rest here = rest e

pub each_mnemonic : (P : Mnemonic → Type 0) → All P MNEMONICS → (m : Mnemonic) → P m
each_mnemonic P all m = of_found P (mnemonic_name m) MNEMONICS m (is_named m).found all

-- instructions of one name have one mnemonic
pub same_mnemonic : (i j : Insn) → name_of i ≡ name_of j → mnemonic_of i ≡ mnemonic_of j
same_mnemonic i j e = mnemonic_name-injective (mnemonic_of i) (mnemonic_of j) e

-- names are plain
pub plain_name : (i : Insn) → PlainWord (name_of i)
plain_name i = (is_named (mnemonic_of i)).plain

-- the numbers of an instruction are short
pub short_operands : (i : Insn) → Fits i → AllByRecursion IsShortOperand (operands_of i)
short_operands (Divide width signedness dst (Reg src)) fits = (tt, (tt, tt))
short_operands (Remainder width signedness dst (Reg src)) fits = (tt, (tt, tt))
short_operands i fits =
    let near : (z : ℤ) → FitsSigned w16 z → IsShortNumber z = short_of_16 in
    let far : (z : ℤ) → FitsSigned w32 z → IsShortNumber z = short_of_32 in search rules

-- ---- a mnemonic and operands make an instruction

abbrev first : List Operand → Operand
first os = get_or os 0 (Register R0)

abbrev second : List Operand → Operand
second os = get_or os 1 (Register R0)

abbrev third : List Operand → Operand
third os = get_or os 2 (Register R0)

abbrev the_register : Operand → RegNo
the_register (Register r) = r
the_register o = R0

abbrev the_number : Operand → ℤ
the_number (Register r) = pos 0
the_number (Number n) = n
the_number (Target d) = d

abbrev the_natural : ℤ → ℕ
the_natural (pos n) = n
the_natural (negsuc n) = 0

abbrev the_source : Operand → Source
the_source (Register r) = Reg r
the_source o = Imm (the_number o)

-- one of two instructions, by whether the second operand is a register
abbrev by_source : Operand → (RegNo → Insn) → (ℤ → Insn) → Insn
by_source (Register r) of_register of_number = of_register r
by_source o of_register of_number = of_number (the_number o)

abbrev pub insn_of : Mnemonic → List Operand → Insn
insn_of (mnemonic.Alu W64 op) os = by_source (second os) (λ src. Alu64Reg op (the_register (first os)) src) (λ imm. Alu64Imm op (the_register (first os)) imm)
insn_of (mnemonic.Alu W32 op) os = by_source (second os) (λ src. Alu32Reg op (the_register (first os)) src) (λ imm. Alu32Imm op (the_register (first os)) imm)
insn_of (mnemonic.Divide width signedness) os = Divide width signedness (the_register (first os)) (the_source (second os))
insn_of (mnemonic.Remainder width signedness) os = Remainder width signedness (the_register (first os)) (the_source (second os))
insn_of (mnemonic.Negate width) os = Negate width (the_register (first os))
insn_of (mnemonic.MoveSigned extension) os = MoveSigned extension (the_register (first os)) (the_register (second os))
insn_of (mnemonic.SwapBytes kind bits) os = SwapBytes kind bits (the_register (first os))
insn_of mnemonic.LoadWide os = LoadWide (the_register (first os)) (the_natural (the_number (second os)))
insn_of (mnemonic.Load size) os = Load size (the_register (first os)) (the_register (second os)) (the_number (third os))
insn_of (mnemonic.LoadSigned size) os = LoadSigned size (the_register (first os)) (the_register (second os)) (the_number (third os))
insn_of (mnemonic.StoreReg size) os = StoreReg size (the_register (first os)) (the_register (third os)) (the_number (second os))
insn_of (mnemonic.StoreImm size) os = StoreImm size (the_register (first os)) (the_number (second os)) (the_number (third os))
insn_of mnemonic.Jump os = Jump (the_number (first os))
insn_of mnemonic.JumpLong os = JumpLong (the_number (first os))
insn_of (mnemonic.JumpIf W64 cond) os = by_source (second os) (λ src. Jump64IfReg cond (the_register (first os)) src (the_number (third os))) (λ imm. Jump64IfImm cond (the_register (first os)) (the_number (third os)) imm)
insn_of (mnemonic.JumpIf W32 cond) os = by_source (second os) (λ src. Jump32IfReg cond (the_register (first os)) src (the_number (third os))) (λ imm. Jump32IfImm cond (the_register (first os)) (the_number (third os)) imm)
insn_of mnemonic.Exit os = Exit

-- what an instruction's mnemonic says of it
record OfMnemonic (i : Insn) : Type 0 where
  made : insn_of (mnemonic_of i) (operands_of i) ≡ i
  targets : map is_target (operands_of i) ≡ map is_target (operands_of (insn_of (mnemonic_of i) []))
  slots : slots_of i ≡ slots_of (insn_of (mnemonic_of i) [])

of_mnemonic : (i : Insn) → OfMnemonic i
of_mnemonic (Divide width signedness dst (Reg src)) = record { made = refl; targets = refl; slots = refl }
of_mnemonic (Remainder width signedness dst (Reg src)) = record { made = refl; targets = refl; slots = refl }
of_mnemonic i = record { made = refl; targets = refl; slots = refl }

-- instructions of one name take as many slots
pub same_slots : (i j : Insn) → name_of i ≡ name_of j → slots_of i ≡ slots_of j
same_slots i j e = (of_mnemonic i).slots ∙ ap (λ (m : Mnemonic). slots_of (insn_of m [])) (same_mnemonic i j e) ∙ sym (of_mnemonic j).slots

-- instructions of one name have targets at the same places
pub same_targets : (i j : Insn) → name_of i ≡ name_of j → map is_target (operands_of i) ≡ map is_target (operands_of j)
same_targets i j e = (of_mnemonic i).targets ∙ ap (λ (m : Mnemonic). map is_target (operands_of (insn_of m []))) (same_mnemonic i j e) ∙ sym (of_mnemonic j).targets

-- a name and operands make one instruction
pub same_insn : (i j : Insn) → name_of i ≡ name_of j → operands_of i ≡ operands_of j → i ≡ j
same_insn i j e operands = sym (of_mnemonic i).made ∙ ap₂ insn_of (same_mnemonic i j e) operands ∙ (of_mnemonic j).made
