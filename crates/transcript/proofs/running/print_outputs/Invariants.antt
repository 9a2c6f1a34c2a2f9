use Rattle.std.proofs.Common.{◌≡◌, take}
use Rattle.transcript.specs.Running.{printed_lanes}
use Rattle.transcript.proofs.running.print_outputs.Given as goal

-- the connections so far are printed
abbrev pub invariant-loop-lane : goal.invariant-loop-lane
invariant-loop-lane l = l.out.items ≡ printed_lanes (take l.lane-index l.lanes)
