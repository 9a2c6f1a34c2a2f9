use Rattle.std.proofs.Common.{◌≤◌, ◌-◌}
use Rattle.shelf.proofs.stand.heads_for.Given as goal

abbrev pub invariant-loop-heads : goal.invariant-loop-heads
invariant-loop-heads l = record {
  some : 1 ≤ l.heads;
  few : l.heads ≤ 16777216;
}

abbrev pub decreases-loop-heads : goal.decreases-loop-heads
decreases-loop-heads l = 16777216 - l.heads
