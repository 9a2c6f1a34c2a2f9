-- The names of other crates that more than one file of these proofs uses.
pub use Rattle.encoding.specs.Opcodes.{FieldUse, Fields, Unused, allows, fault_with, is_above, is_bad_register, slot_fault, conds, ops, sizes, BeginsWith, memory_fields, IsAllOf, IsRead}
pub use Rattle.encoding.specs.Spelling.{BeginsNone, HasBadRegister, IsCutOff, IsOpcode, IsSlot, IsSlotFault, LOAD_WIDE, first_slot, refused_as, slot, slot_bytes, slots, spelling, FaultAt}
pub use Rattle.encoding.specs.Spelling.{FirstInsnFault, IsWhole, Spells, slot_fault_at, JUMP, JUMP_LONG, EXIT}
pub use Rattle.encoding.specs.declared.slot.Slot.{Slot}
pub use Rattle.encoding.specs.declared.slot_fault.SlotFault.{SlotFault}
pub use Rattle.encoding.specs.declared.slot_fault.SlotFault.TheVariants.{BadRegister, NonzeroField, TruncatedWide, UnknownOpcode}
pub use Rattle.insn.specs.Instruction.{slots_of, reg_number, Fits}
pub use Rattle.insn.specs.Program.{slot_count, SLOT_LIMIT}
pub use Rattle.insn.specs.declared.instruction.Insn.{Insn}
pub use Rattle.insn.specs.declared.instruction.Insn.TheVariants.{LoadWide, Divide, Remainder, MoveSigned, SwapBytes, Alu64Imm, Alu64Reg, Alu32Imm, Alu32Reg, Negate, Load, LoadSigned, StoreReg}
pub use Rattle.insn.specs.declared.instruction.Insn.TheVariants.{StoreImm, Jump, JumpLong, Jump64IfImm, Jump64IfReg, Jump32IfImm, Jump32IfReg, Exit}
pub use Rattle.insn.specs.declared.instruction.Operand.TheVariants.{Imm, Reg}
pub use Rattle.insn.specs.declared.operation.Extension.TheVariants.{From8To64, From16To64, From32To64, From8To32, From16To32}
pub use Rattle.insn.specs.declared.operation.Signedness.TheVariants.{Unsigned, Signed}
pub use Rattle.insn.specs.declared.operation.SwapBits.TheVariants.{B16, B32, B64}
pub use Rattle.insn.specs.declared.register.RegNo.{RegNo}
pub use Rattle.insn.specs.declared.register.RegNo.TheVariants.{R0, R1, R2, R3, R4, R5, R6, R7, R8, R9, R10}
pub use Rattle.std.proofs.lemmas.Bool.{and_parts, eqb-true, ltb-true, or_cases, le-ltb, ne_eqb}
pub use Rattle.std.proofs.lemmas.Bool.Decides.{nat_tests}
pub use Rattle.std.proofs.lemmas.Int.{ints, to_z-of_z, of_z-to_z}
pub use Rattle.std.proofs.lemmas.List.{append_cancel_left, length-append, take-append-drop}
pub use Rattle.std.proofs.lemmas.List.Concat.{flat_map-append}
pub use Rattle.std.proofs.lemmas.List.Sums.{sum_by-cons, sum_by_push}
pub use Rattle.std.specs.Int.{cast_signed, cast_unsigned}
pub use Rattle.std.specs.List.{flat_map, range_with_len, AllByRecursion}
pub use Rattle.std.specs.Prelude.{◌==◌, ◌&&◌, not, nat_lt, if◌then◌else◌, negsuc}
