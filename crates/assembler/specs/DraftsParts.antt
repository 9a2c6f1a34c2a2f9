-- Beside Drafts: only the contracts of this crate's own parts and their proofs cite this, no public clause.
use Rattle.std.specs.Prelude.{◌≡◌, ◌≢◌, true, ℤ, List, Option, Some, None, FitsSigned}
use Rattle.std.specs.Int.{w16, w32}
use Rattle.std.specs.Fmt.{signed_decimal}
use Rattle.insn.specs.declared.register.RegNo.{RegNo}
use Rattle.insn.specs.declared.instruction.Insn.{Insn}
use Rattle.insn.specs.declared.instruction.Operand.{Operand as Source}
use Rattle.insn.specs.declared.instruction.Operand.TheVariants.{Reg, Imm}
use Rattle.insn.specs.Instruction.{Fits}
use Rattle.assembly.specs.Text.{Word, Target, register_word, distance_word, is_name, mnemonic_of, operands_of, SaysOperand, SaysOperands}
use Rattle.assembly.specs.declared.mnemonic.Mnemonic.{Mnemonic}
use Rattle.assembler.specs.declared.draft.Jump.{Jump}
use Rattle.assembler.specs.declared.draft.Draft.{Draft}
use Rattle.assembler.specs.declared.draft.Draft.TheVariants.{Whole, ToLabel}
use Rattle.assembler.specs.Faults.{Anywhere}
use Rattle.assembler.specs.Drafts.{jump_over, SaysDraft}

abbrev pub DraftOf : Mnemonic → List Word → Option Draft → Type 0
DraftOf m words None = (i : Insn) → mnemonic_of i ≡ m → Fits i → SaysOperands Anywhere (operands_of i) words → ⊥
DraftOf m words (Some draft) = SaysDraft m words draft

-- a word is a second operand that fits
abbrev pub IsSource : Word → Option Source → Type 0
IsSource word (Some (Reg src)) = word ≡ register_word src
IsSource word (Some (Imm imm)) = (word ≡ signed_decimal imm) × FitsSigned w32 imm
IsSource word None = ((r : RegNo) → word ≢ register_word r) × ((z : ℤ) → FitsSigned w32 z → word ≢ signed_decimal z)

-- a word is the target of a jump
abbrev pub HasTarget : Jump → Word → Option Draft → Type 0
HasTarget jump word (Some (Whole i)) = (d : ℤ) × FitsSigned w16 d × (i ≡ jump_over jump d) × (word ≡ distance_word d)
HasTarget jump word (Some (ToLabel to name)) = (to ≡ jump) × (name.now ≡ word) × (is_name word ≡ true)
HasTarget jump word None = (d : ℤ) → FitsSigned w16 d → SaysOperand Anywhere (Target d) word → ⊥
