-- What the words of a line say but for where a label lies.
use Rattle.std.specs.Prelude.{◌≡◌, ℕ, true, ℤ, List, [], ◌∷◌, Result, Ok, Err, FitsSigned}
use Rattle.std.specs.Str.{bytes_eq}
use Rattle.std.specs.List.{list_any}
use Rattle.std.specs.Int.{w16}
use Rattle.insn.specs.declared.instruction.Insn.{Insn}
use Rattle.insn.specs.declared.instruction.Insn.TheVariants as insn
use Rattle.insn.specs.Instruction.{slots_of, Fits}
use Rattle.assembly.specs.Text.{Word, mnemonic_name, mnemonic_of, operands_of, SaysOperands, Statement}
use Rattle.assembly.specs.declared.mnemonic.Mnemonic.{Mnemonic}
use Rattle.assembler.specs.declared.draft.Jump.{Jump}
use Rattle.assembler.specs.declared.draft.Jump.TheVariants.{Always, Long, If}
use Rattle.insn.specs.declared.operation.Width.TheVariants.{W32, W64}
use Rattle.insn.specs.declared.instruction.Operand.TheVariants.{Reg, Imm}
use Rattle.assembler.specs.declared.draft.Draft.{Draft}
use Rattle.assembler.specs.declared.draft.Draft.TheVariants.{Whole, ToLabel}
use Rattle.assembler.specs.declared.draft.WordFault.{WordFault}
use Rattle.assembler.specs.declared.draft.WordFault.TheVariants.{UnknownWord, BadOperand, OutOfRange}
use Rattle.assembler.specs.Faults.{OneOf, HasUnknownWord, HasBadOperand, IsOutOfRange}

-- a jump over so many slots
abbrev pub jump_over : Jump → ℤ → Insn
jump_over Always d = insn.Jump d
jump_over Long d = insn.JumpLong d
jump_over (If W64 cond dst (Imm imm)) d = insn.Jump64IfImm cond dst d imm
jump_over (If W64 cond dst (Reg src)) d = insn.Jump64IfReg cond dst src d
jump_over (If W32 cond dst (Imm imm)) d = insn.Jump32IfImm cond dst d imm
jump_over (If W32 cond dst (Reg src)) d = insn.Jump32IfReg cond dst src d

abbrev pub draft_slots : Draft → ℕ
draft_slots (Whole i) = slots_of i
draft_slots (ToLabel jump name) = 1

-- no name may stand for a distance
abbrev pub Nowhere : Word → ℤ → Type 0
Nowhere name distance = ⊥

-- a name may stand for this distance
abbrev pub At : Word → ℤ → Word → ℤ → Type 0
At label to name distance = (label ≡ name) × (to ≡ distance)

-- words behind a mnemonic say this jump with the distance d
pub record SaysJump (m : Mnemonic) (jump : Jump) (label : Word) (words : List Word) (d : ℤ) : Type 0 where
  pub named : mnemonic_of (jump_over jump d) ≡ m
  pub fit : Fits (jump_over jump d)
  pub said : SaysOperands (At label d) (operands_of (jump_over jump d)) words

-- words behind a mnemonic say a draft: an instruction that fits, or a jump to a label over any near distance
abbrev pub SaysDraft : Mnemonic → List Word → Draft → Type 0
SaysDraft m words (Whole i) = (mnemonic_of i ≡ m) × Fits i × SaysOperands Nowhere (operands_of i) words
SaysDraft m words (ToLabel jump name) = ((d : ℤ) → FitsSigned w16 d → SaysJump m jump name.now words d)
    × ((names : List Word) (i : Insn) → mnemonic_of i ≡ m → Fits i → SaysOperands (OneOf names) (operands_of i) words → list_any (bytes_eq name.now) names ≡
    true)

-- the words of a line say a draft
pub record IsDraft (words : List Word) (draft : Draft) : Type 0 where
  pub mnemonic : Mnemonic
  pub operands : List Word
  pub parts : words ≡ mnemonic_name mnemonic ∷ operands
  pub said : SaysDraft mnemonic operands draft

abbrev pub StatementDraft : List Word → Result Draft WordFault → Type 0
StatementDraft words (Ok draft) = IsDraft words draft
StatementDraft words (Err UnknownWord) = HasUnknownWord [] [] (Statement words)
StatementDraft words (Err BadOperand) = HasBadOperand [] [] (Statement words)
StatementDraft words (Err OutOfRange) = IsOutOfRange [] [] (Statement words)
