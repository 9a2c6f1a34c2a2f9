use Rattle.std.proofs.Common.{inl, inr}
use Rattle.command_line.proofs.state_performing.perform_state.Goals as goal

pub returns-in-Ok-ended_by : goal.returns-in-Ok-ended_by
returns-in-Ok-ended_by g c = rw c.in-Trial.is (elim c.told_trial.ensures [
  | inl unwritten ↦ inl unwritten
  | inr done ↦ inr (inl (done.0, (done.1, c.in-Ok-ended_by.ended, c.in-Ok-ended_by.ensures.done, done.2)))
])
