use Rattle.standby.specs.Doors.{OnlyRefuses}
use Rattle.standby.proofs.door.meet_all.Given as goal

abbrev pub invariant-loop-ready : goal.invariant-loop-ready
invariant-loop-ready l = OnlyRefuses l.initial.porch l.porch
