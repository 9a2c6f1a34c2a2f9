-- The names of types and of other crates that more than one file of these definitions uses.
pub use Rattle.encoding.specs.Spelling.{Spells, FirstInsnFault}
pub use Rattle.hex.specs.Hex.{encode_lower}
pub use Rattle.hook_commands.specs.declared.answer.HookAnswer.{HookAnswer}
pub use Rattle.hook_commands.specs.declared.fault.HookCommandFault.{HookCommandFault}
pub use Rattle.hook_commands.specs.declared.judge.JudgeFault.{JudgeFault}
pub use Rattle.hook_record.specs.Record.{kind_of, record_v1, record_v2, ask_in_v1, ask_in_v2}
pub use Rattle.insn.specs.FirstLook.{distance_of, written_by}
pub use Rattle.insn.specs.Instruction.{slots_of, size_bytes, reg_number}
pub use Rattle.insn.specs.Program.{begins_at, slot_count}
pub use Rattle.insn.specs.declared.fault.InsnFault.{InsnFault}
pub use Rattle.insn.specs.declared.instruction.Insn.{Insn as Instruction}
pub use Rattle.insn.specs.declared.layout.Layout.{Layout}
pub use Rattle.insn.specs.declared.layout.Layout.TheVariants.{V1, V2}
pub use Rattle.insn.specs.declared.register.RegNo.{RegNo}
pub use Rattle.insn.specs.declared.verify_fault.VerifyFault.{VerifyFault}
pub use Rattle.insn.specs.declared.verify_fault.VerifyFault.TheVariants.{JumpBack, JumpOut, JumpIntoWide, WritesR10, FallsOff, UnsetRegister, UnsetByte, OutOfRegion, ReadOnlyField, PointerMisuse}
pub use Rattle.insn.specs.declared.verify_fault.VerifyFault.TheVariants.{ExitsWithPointer, PointerRange, Memory}
pub use Rattle.std.specs.Option.{option_map, option_or}
pub use Rattle.std.specs.String.{string_bytes}
pub use Rattle.verifier.specs.Follows.{reg_of}
pub use Rattle.verifier.specs.declared.known.Known.{Known}
