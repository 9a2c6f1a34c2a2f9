use Rattle.std.proofs.Common.{◌≤◌, ◌++◌, ℕ, List, drop, length}
use Rattle.shortening.specs.Steps.{IsDeciding}
use Rattle.state_keeper.proofs.Names.{Event, dated_facts}
use Rattle.state_keeper.proofs.deciding.decide_changes.Given as goal

abbrev pub invariant-loop-at : goal.invariant-loop-at
invariant-loop-at l = record {
  within : l.at ≤ length l.changes;
  decides : (history later : List Event) (m : ℕ) → IsDeciding l.initial.deciding history m later → IsDeciding l.deciding history m (dated_facts (drop l.at l.changes) ++ later);
}

abbrev pub decreases-loop-at : goal.decreases-loop-at
decreases-loop-at l = l.at
