use Rattle.standby.specs.Doors.{OnlyRefuses}
use Rattle.standby.proofs.door.Door.serve.Given as goal

abbrev pub invariant-loop-look : goal.invariant-loop-look
invariant-loop-look g l = OnlyRefuses l.initial.self.porch l.self.porch
