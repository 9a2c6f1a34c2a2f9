use Rattle.standby.specs.Doors.{RefusesMeanwhile}
use Rattle.standby.proofs.waiting.wait_to_lead.Given as goal

abbrev pub invariant-loop-tries : goal.invariant-loop-tries
invariant-loop-tries g l = RefusesMeanwhile l._tries l.initial.door l.door
