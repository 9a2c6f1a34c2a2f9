use Rattle.std.proofs.Common.{◌≤◌, ◌-◌, length}
use Rattle.cluster_file.proofs.pieces.start_of.Given as goal

abbrev pub invariant-halves : goal.invariant-halves
invariant-halves l = record {
  ordered : l.low ≤ l.high;
  within : l.high ≤ length l.fn.starts;
}

abbrev pub decreases-halves : goal.decreases-halves
decreases-halves l = l.high - l.low
