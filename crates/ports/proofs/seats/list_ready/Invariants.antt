use Rattle.std.proofs.Common.{◌≤◌, length}
use Rattle.ports.proofs.seats.list_ready.Given as goal

abbrev pub invariant-loop-event : goal.invariant-loop-event
invariant-loop-event l = l.count ≤ length l.found
