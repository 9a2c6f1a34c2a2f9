-- The names of types and of other crates that more than one file of these definitions uses.
pub use Rattle.insn.specs.declared.action.Action.{Action}
pub use Rattle.insn.specs.declared.action.Action.TheVariants.{Operate, Convert, LoadWord, LoadFrom, Go, Branch, StoreAt, End}
pub use Rattle.insn.specs.declared.instruction.Insn.{Insn}
pub use Rattle.insn.specs.declared.instruction.Insn.TheVariants.{Alu64Imm, Alu32Imm, Divide, Remainder, LoadWide, Load, LoadSigned, StoreReg, StoreImm, Jump, JumpLong, Jump64IfImm, Jump64IfReg}
pub use Rattle.insn.specs.declared.instruction.Insn.TheVariants.{Jump32IfImm, Jump32IfReg, Alu64Reg, Alu32Reg, Negate, MoveSigned, SwapBytes, Exit}
pub use Rattle.insn.specs.declared.instruction.Operand.{Operand}
pub use Rattle.insn.specs.declared.instruction.Operand.TheVariants.{Reg, Imm}
pub use Rattle.insn.specs.declared.layout.Layout.{Layout}
pub use Rattle.insn.specs.declared.operation.BinOp.{BinOp}
pub use Rattle.insn.specs.declared.operation.BinOp.TheVariants.{Add, Sub, Mov, Mul, Div, Sdiv, Or, And, Lsh, Rsh, Mod, Smod, Xor, Arsh}
pub use Rattle.insn.specs.declared.operation.ExtendBits.{ExtendBits}
pub use Rattle.insn.specs.declared.operation.Size.{Size}
pub use Rattle.insn.specs.declared.operation.Size.TheVariants.{One, Two, Four, Eight}
pub use Rattle.insn.specs.declared.operation.SwapBits.{SwapBits}
pub use Rattle.insn.specs.declared.operation.SwapKind.{SwapKind}
pub use Rattle.insn.specs.declared.operation.SwapKind.TheVariants.{ToLittle, ToBig}
pub use Rattle.insn.specs.declared.operation.UnOp.{UnOp}
pub use Rattle.insn.specs.declared.operation.UnOp.TheVariants.{Neg, Extend}
pub use Rattle.insn.specs.declared.operation.Width.{Width}
pub use Rattle.insn.specs.declared.operation.Width.TheVariants.{W64, W32}
pub use Rattle.insn.specs.declared.register.RegNo.{RegNo}
pub use Rattle.insn.specs.declared.register.RegNo.TheVariants.{R0, R1, R2, R3, R4, R5, R6, R7, R8, R9, R10}
pub use Rattle.insn.specs.declared.state.Cell.{Cell}
pub use Rattle.insn.specs.declared.state.Cell.TheVariants.{Unset, Byte, Part}
pub use Rattle.insn.specs.declared.state.Pointer.{Pointer}
pub use Rattle.insn.specs.declared.state.Region.{Region}
pub use Rattle.insn.specs.declared.state.Region.TheVariants.{Record, Stack}
pub use Rattle.insn.specs.declared.state.Value.{Value}
pub use Rattle.insn.specs.declared.state.Value.TheVariants.{Number, Address}
pub use Rattle.insn.specs.declared.verify_fault.LookFault.{LookFault}
pub use Rattle.insn.specs.declared.verify_fault.VerifyFault.{VerifyFault}
pub use Rattle.insn.specs.declared.verify_fault.WalkFault.{WalkFault}
pub use Rattle.insn.specs.declared.verify_fault.WalkFault.TheVariants.{PointerMisuse, UnsetByte, UnsetRegister, OutOfRegion, ReadOnlyField, ExitsWithPointer, PointerRange, FallsOff}
pub use Rattle.std.proofs.Math.Facts.{sfits_widen, Fits-of_z, sfits_to_z}
pub use Rattle.std.proofs.lemmas.Bool.{leb-true, eqb-true}
pub use Rattle.std.proofs.lemmas.List.{get_or-drop, length-drop, length-take, drop-drop, drop_at, take_all, length-replicate, length-map, length-set}
pub use Rattle.std.proofs.lemmas.List.Sums.{sum_by-cons}
pub use Rattle.std.proofs.lemmas.Nat.{pow-add, and_le_l, mod_below, or_lt, xor_lt}
pub use Rattle.std.specs.Int.{cast_unsigned, w16, Width as IntWidth, w8, cast_signed, int_shr, swap_bytes}
pub use Rattle.std.specs.Int.RustNames.{int_div, int_rem}
pub use Rattle.std.specs.List.{AllByRecursion, list_any}
pub use Rattle.std.specs.Option.{option_or, option_map}
