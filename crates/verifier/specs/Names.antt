-- The names of types and of other crates that more than one file of these definitions uses.
pub use Rattle.insn.specs.Effects.{Effect, Falls, Jumps, Exits, operand_value, word_of}
pub use Rattle.insn.specs.Instruction.{reg_number, size_bytes, slots_of}
pub use Rattle.insn.specs.Meaning.{action_of}
pub use Rattle.insn.specs.Outcomes.{comparison, effect, fault_at, passed}
pub use Rattle.insn.specs.Program.{begins_at, slot_count}
pub use Rattle.insn.specs.Refusals.{look_verdict, walk_fault_at}
pub use Rattle.insn.specs.Step.{Reaches, Safe, lead, exit_at, ExitsWithin}
pub use Rattle.insn.specs.Values.{Config, IsRecord, STACK_SIZE, State, ◌>>=◌, entry, record_size, value_of, start}
pub use Rattle.insn.specs.Word.{word_holds, int_width, wrapped}
pub use Rattle.insn.specs.declared.action.Action.{Action}
pub use Rattle.insn.specs.declared.action.Action.TheVariants.{Operate, Convert, LoadWord, LoadFrom, StoreAt, Go, End}
pub use Rattle.insn.specs.declared.instruction.Insn.{Insn}
pub use Rattle.insn.specs.declared.instruction.Operand.{Operand}
pub use Rattle.insn.specs.declared.instruction.Operand.TheVariants.{Reg, Imm}
pub use Rattle.insn.specs.declared.layout.Layout.{Layout}
pub use Rattle.insn.specs.declared.operation.BinOp.{BinOp}
pub use Rattle.insn.specs.declared.operation.BinOp.TheVariants.{Add, Sub, Lsh, Rsh, Mov, Arsh}
pub use Rattle.insn.specs.declared.operation.Cond.TheVariants.{Eq}
pub use Rattle.insn.specs.declared.operation.Width.{Width}
pub use Rattle.insn.specs.declared.operation.Width.TheVariants.{W64, W32}
pub use Rattle.insn.specs.declared.register.RegNo.{RegNo}
pub use Rattle.insn.specs.declared.register.RegNo.TheVariants.{R10, R0}
pub use Rattle.insn.specs.declared.state.Cell.{Cell}
pub use Rattle.insn.specs.declared.state.Cell.TheVariants.{Unset, Byte, Part}
pub use Rattle.insn.specs.declared.state.Pointer.{Pointer}
pub use Rattle.insn.specs.declared.state.Value.{Value}
pub use Rattle.insn.specs.declared.state.Value.TheVariants.{Address, Number}
pub use Rattle.insn.specs.declared.verify_fault.VerifyFault.{VerifyFault}
pub use Rattle.insn.specs.declared.verify_fault.WalkFault.{WalkFault}
pub use Rattle.insn.specs.declared.verify_fault.WalkFault.TheVariants.{FallsOff, PointerMisuse, UnsetRegister, ExitsWithPointer, PointerRange, ReadOnlyField}
pub use Rattle.reg_kind.specs.Fits.{RegFits, ValueFits, IsKindJoin, IsKindRefined}
pub use Rattle.reg_kind.specs.Operations.{IsKnownNumber, IsKindImage, IsKindResult, number_in_reg}
pub use Rattle.reg_kind.specs.declared.reg.Reg.{Reg as Kind}
pub use Rattle.scalar.specs.Members.{InScalar, ShowsOne}
pub use Rattle.scalar.specs.declared.scalar.Scalar.{Scalar}
pub use Rattle.stack_state.specs.Fits.{StackFits, block_at, mark_at}
pub use Rattle.std.specs.Box.{box_value}
pub use Rattle.std.specs.List.{filter_map}
pub use Rattle.std.specs.Option.{option_map}
pub use Rattle.verifier.specs.declared.known.Flow.{Flow}
pub use Rattle.verifier.specs.declared.known.Flow.TheVariants.{Next, Jump, Exit}
pub use Rattle.links.specs.declared.link.Bits.{Bits}
pub use Rattle.links.specs.declared.link.Bits.TheVariants.{Lowest, Shifted}
pub use Rattle.links.specs.declared.link.Relation.{Relation}
pub use Rattle.links.specs.declared.link.Relation.TheVariants.{Sum, Difference}
