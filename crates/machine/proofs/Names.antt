-- The names of other crates that more than one file of these proofs uses.
pub use Rattle.insn.specs.Effects.{Falls, Jumps, Exits}
pub use Rattle.insn.specs.Instruction.{slots_of, size_bytes}
pub use Rattle.insn.specs.Jumps.{target}
pub use Rattle.insn.specs.Memory.{low_bytes, written, value_in}
pub use Rattle.insn.specs.Outcomes.{passed, effect, access_place, loaded, value_at}
pub use Rattle.insn.specs.Program.{begins_at, places, slot_count}
pub use Rattle.insn.specs.Step.{IsStuckAt, Reaches, IsExit, IsStuck, steps}
pub use Rattle.insn.specs.Values.{◌>>=◌, State, Config, entry, start, record_size, STACK_SIZE, at as pointer_at}
pub use Rattle.insn.specs.declared.instruction.Insn.{Insn}
pub use Rattle.insn.specs.declared.layout.Layout.{Layout}
pub use Rattle.insn.specs.declared.state.Cell.TheVariants.{Byte}
pub use Rattle.machine.specs.Frame.{state_of}
pub use Rattle.std.proofs.lemmas.Int.{to_z-of_z}
pub use Rattle.std.proofs.lemmas.List.{take_more_set, length-take, drop-drop, length-map}
