-- Beside Sheets: only the contracts of this crate's own parts and their proofs cite this, no public clause.
use Rattle.std.specs.Prelude.{◌≡◌, ⊤, ℕ, ◌+◌, pos, ◌-ℤ◌, List, ◌∷◌, ◌++◌, map, Option, Some, None}
use Rattle.std.specs.Option.{option_map}
use Rattle.insn.specs.declared.instruction.Insn.{Insn}
use Rattle.assembly.specs.Text.{Word}
use Rattle.assembler.specs.declared.draft.Draft.{Draft}
use Rattle.assembler.specs.declared.draft.Draft.TheVariants.{Whole, ToLabel}
use Rattle.assembler.specs.declared.draft.WordFault.{WordFault}
use Rattle.assembler.specs.declared.draft.WordFault.TheVariants.{UnknownWord, BadOperand, OutOfRange}
use Rattle.assembler.specs.declared.fault.AsmFault.{AsmFault}
use Rattle.assembler.specs.declared.fault.AsmFault.TheVariants as faults
use Rattle.assembler.specs.declared.sheet.Place.{Place}
use Rattle.assembler.specs.Drafts.{jump_over}

-- the instruction of a draft, where labels stand at these slots, and of a place
abbrev pub resolution_of : (Word → Option ℕ) → ℕ → Draft → Option Insn
resolution_of find behind (Whole i) = Some i
resolution_of find behind (ToLabel jump name) = option_map (λ to. jump_over jump (pos to -ℤ pos behind)) (find name.now)

abbrev pub resolution : (Word → Option ℕ) → Place → Option Insn
resolution find p = resolution_of find p.behind.number p.draft

-- the fault of a line's words
abbrev pub fault_on_line : WordFault → ℕ → AsmFault
fault_on_line UnknownWord line = faults.UnknownWord line
fault_on_line BadOperand line = faults.BadOperand line
fault_on_line OutOfRange line = faults.OutOfRange line

-- a place whose label stands nowhere, behind others whose labels stand somewhere
pub record FirstLostPlace (find : Word → Option ℕ) (places : List Place) (line : ℕ) : Type 0 where
  pub front : List Place
  pub here : Place
  pub back : List Place
  pub known : List Insn
  pub parts : places ≡ front ++ here ∷ back
  pub resolved : map Some known ≡ map (resolution find) front
  pub lost : resolution find here ≡ None
  pub told : line ≡ here.line

-- how the look-up of labels ends without instructions
abbrev pub Unresolved : (Word → Option ℕ) → List Place → AsmFault → Type 0
Unresolved find places (faults.UnknownLabel line) = FirstLostPlace find places line
Unresolved find places faults.Memory = ⊤
Unresolved find places fault = ⊥
