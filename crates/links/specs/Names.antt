-- The names of types and of other crates that more than one file of these definitions uses.
pub use Rattle.insn.specs.Instruction.{reg_number}
pub use Rattle.insn.specs.Values.{◌>>=◌, value_of}
pub use Rattle.insn.specs.Word.{word_holds, int_width, wrapped}
pub use Rattle.insn.specs.declared.action.Action.{Action}
pub use Rattle.insn.specs.declared.action.Action.TheVariants.{Operate}
pub use Rattle.insn.specs.declared.instruction.Operand.{Operand}
pub use Rattle.insn.specs.declared.instruction.Operand.TheVariants.{Reg, Imm}
pub use Rattle.insn.specs.declared.operation.BinOp.{BinOp}
pub use Rattle.insn.specs.declared.operation.BinOp.TheVariants.{Add, Sub, And, Lsh, Rsh, Mov, Arsh}
pub use Rattle.insn.specs.declared.operation.Cond.TheVariants.{Eq}
pub use Rattle.insn.specs.declared.operation.Width.{Width}
pub use Rattle.insn.specs.declared.operation.Width.TheVariants.{W64, W32}
pub use Rattle.insn.specs.declared.register.RegNo.{RegNo}
pub use Rattle.insn.specs.declared.state.Cell.{Cell}
pub use Rattle.insn.specs.declared.state.Value.{Value}
pub use Rattle.insn.specs.declared.state.Value.TheVariants.{Address, Number}
pub use Rattle.reg_kind.specs.Fits.{RegFits}
pub use Rattle.reg_kind.specs.declared.reg.Reg.{Reg as Kind}
pub use Rattle.scalar.specs.Members.{InScalar, ShowsOne}
pub use Rattle.scalar.specs.declared.scalar.Scalar.{Scalar}
pub use Rattle.stack_state.specs.Fits.{block_at}
pub use Rattle.links.specs.declared.link.Bits.{Bits}
pub use Rattle.links.specs.declared.link.Bits.TheVariants.{Lowest, Shifted, Masked}
pub use Rattle.links.specs.declared.link.Relation.{Relation}
pub use Rattle.links.specs.declared.link.Relation.TheVariants.{Sum, Difference}
pub use Rattle.links.specs.declared.link.Link.{Link}
