use Rattle.standby.specs.Doors.{OnlyRefuses}
use Rattle.standby.proofs.door.let_in.Given as goal

abbrev pub invariant-loop-turn : goal.invariant-loop-turn
invariant-loop-turn l = OnlyRefuses l.initial.porch l.porch
