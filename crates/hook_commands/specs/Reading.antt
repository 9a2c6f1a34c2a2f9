-- Which registers an instruction reads, by what it says.
use Rattle.std.specs.Prelude.{Option, Some, None}
use Rattle.insn.specs.declared.action.Action.{Action}
use Rattle.insn.specs.declared.action.Action.TheVariants.{Operate, Convert, LoadFrom, StoreAt, Branch, End}
use Rattle.insn.specs.declared.instruction.Operand.TheVariants.{Reg}
use Rattle.insn.specs.declared.operation.BinOp.TheVariants.{Mov}
use Rattle.insn.specs.declared.operation.UnOp.TheVariants.{Extend}
use Rattle.insn.specs.declared.register.RegNo.{RegNo}
use Rattle.insn.specs.declared.register.RegNo.TheVariants.{R0}

-- the register that is read and stands first: an operand, or what a store leads to; a move does not read what it writes
abbrev pub left_read : Action → Option RegNo
left_read (Operate w Mov dst operand) = None
left_read (Operate w op dst operand) = Some dst
left_read (Convert w (Extend bits) dst src) = None
left_read (Convert w op dst src) = Some dst
left_read (StoreAt size dst offset operand) = Some dst
left_read (Branch w cond dst operand offset) = Some dst
left_read End = Some R0
left_read action = None

-- the register that is read and stands second: an operand, or where a load leads to
abbrev pub right_read : Action → Option RegNo
right_read (Operate w op dst (Reg src)) = Some src
right_read (Convert w (Extend bits) dst src) = Some src
right_read (LoadFrom size extension dst src offset) = Some src
right_read (StoreAt size dst offset (Reg src)) = Some src
right_read (Branch w cond dst (Reg src) offset) = Some src
right_read action = None
