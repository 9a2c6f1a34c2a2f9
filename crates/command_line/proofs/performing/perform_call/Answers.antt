use Rattle.std.proofs.Common.{inl, inr}
use Rattle.command_line.proofs.performing.perform_call.Goals as goal

pub returns-in-Command : goal.returns-in-Command
returns-in-Command g c = elim c.perform_command.ensures [
  | inl unwritten ↦ inl unwritten
  | inr ends ↦ inr (rw c.in-Command.is (c.moment_now.result, rw c.as_ref-file.ensures.value at ends))
]
