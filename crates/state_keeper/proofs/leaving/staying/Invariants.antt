use Rattle.std.proofs.Common.{◌≡◌, ◌-◌, ◌++◌, ℕ, List, drop, length}
use Rattle.shortening.specs.Steps.{IsLeaving, keeps_of, picked}
use Rattle.state_keeper.proofs.Names.{Event, dated_facts}
use Rattle.state_keeper.proofs.leaving.staying.Given as goal

abbrev pub invariant-loop-at : goal.invariant-loop-at
invariant-loop-at l = record {
  asked : (history later : List Event) (m : ℕ) → IsLeaving l.initial.leaving (keeps_of m history (dated_facts l.changes ++ later)) →
      IsLeaving l.leaving (keeps_of m history (dated_facts (drop l.at l.changes) ++ later));
  stays : (history later : List Event) (m : ℕ) → IsLeaving l.initial.leaving (keeps_of m history (dated_facts l.changes ++ later)) →
      dated_facts l.stay.items ++ picked (keeps_of m history (dated_facts (drop l.at l.changes) ++ later)) (dated_facts (drop l.at l.changes) ++ later)
      ≡ picked (keeps_of m history (dated_facts l.changes ++ later)) (dated_facts l.changes ++ later);
}

abbrev pub decreases-loop-at : goal.decreases-loop-at
decreases-loop-at l = length l.changes - l.at
