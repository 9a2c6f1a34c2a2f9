-- The operands of an instruction, by what it says.
use Rattle.std.specs.Prelude.{pos, List, [], ◌∷◌}
use Rattle.insn.specs.declared.action.Action.{Action}
use Rattle.insn.specs.declared.action.Action.TheVariants.{Operate, Convert, LoadWord, LoadFrom, StoreAt, Go, Branch, End}
use Rattle.insn.specs.declared.operation.UnOp.TheVariants.{Extend}
use Rattle.assembly.specs.Text.{Operand, Register, Number, Target, source_operand}

abbrev pub operands_in : Action → List Operand
operands_in (Operate w op dst operand) = Register dst ∷ source_operand operand ∷ []
operands_in (Convert w (Extend bits) dst src) = Register dst ∷ Register src ∷ []
operands_in (Convert w op dst src) = Register dst ∷ []
operands_in (LoadWord dst value) = Register dst ∷ Number (pos value) ∷ []
operands_in (LoadFrom size extension dst src offset) = Register dst ∷ Register src ∷ Number offset ∷ []
operands_in (StoreAt size dst offset operand) = Register dst ∷ Number offset ∷ source_operand operand ∷ []
operands_in (Go offset) = Target offset ∷ []
operands_in (Branch w cond dst operand offset) = Register dst ∷ source_operand operand ∷ Target offset ∷ []
operands_in End = []
