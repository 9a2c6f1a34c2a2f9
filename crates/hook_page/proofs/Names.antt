-- The names of other crates that more than one file of these proofs uses.
pub use Rattle.insn.specs.declared.instruction.Insn.{Insn}
pub use Rattle.insn.specs.declared.instruction.Insn.TheVariants.{Alu64Imm, Alu32Imm, Divide, Remainder, LoadWide, Load, LoadSigned, StoreReg, StoreImm, Jump, JumpLong, Jump64IfImm, Jump64IfReg}
pub use Rattle.insn.specs.declared.instruction.Insn.TheVariants.{Jump32IfImm, Jump32IfReg, Alu64Reg, Alu32Reg, Negate, MoveSigned, SwapBytes, Exit}
pub use Rattle.insn.specs.declared.instruction.Operand.TheVariants.{Reg, Imm}
pub use Rattle.insn.specs.declared.layout.Layout.{Layout}
pub use Rattle.insn.specs.declared.operation.BinOp.{BinOp}
pub use Rattle.insn.specs.declared.operation.BinOp.TheVariants.{Add, Sub, Mov, Mul, Div, Sdiv, Or, And, Lsh, Rsh, Mod, Smod, Xor, Arsh}
pub use Rattle.insn.specs.declared.operation.Size.{Size}
pub use Rattle.insn.specs.declared.operation.Size.TheVariants.{One, Two, Four, Eight}
pub use Rattle.insn.specs.declared.operation.SwapKind.TheVariants.{ToLittle, ToBig}
pub use Rattle.insn.specs.declared.operation.Width.{Width}
pub use Rattle.insn.specs.declared.operation.Width.TheVariants.{W64, W32}
pub use Rattle.insn.specs.declared.register.RegNo.{RegNo}
pub use Rattle.insn.specs.declared.register.RegNo.TheVariants.{R0, R10}
pub use Rattle.insn.specs.declared.state.Cell.{Cell}
pub use Rattle.insn.specs.declared.state.Cell.TheVariants.{Byte, Part}
pub use Rattle.insn.specs.declared.state.Pointer.{Pointer}
pub use Rattle.insn.specs.declared.state.Region.{Region}
pub use Rattle.insn.specs.declared.state.Region.TheVariants.{Record, Stack}
pub use Rattle.insn.specs.declared.state.Value.{Value}
pub use Rattle.insn.specs.declared.state.Value.TheVariants.{Number, Address}
pub use Rattle.insn.specs.declared.verify_fault.WalkFault.{WalkFault}
pub use Rattle.insn.specs.declared.verify_fault.WalkFault.TheVariants.{PointerMisuse, OutOfRegion, ExitsWithPointer, PointerRange}
