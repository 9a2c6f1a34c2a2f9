use Rattle.std.proofs.Common.{◌-◌, ◌≤◌, ℕ, List}
use Rattle.consent.specs.History.{Event, with_changes, withdrawals}
use Rattle.consent.specs.Consents.{FitsConsents}
use Rattle.consent.proofs.consents.Consents.withdraw_all.Given as goal

abbrev pub invariant-loop-left : goal.invariant-loop-left
invariant-loop-left l = record {
  inside : l.left ≤ l.clients;
  fits : (history : List Event) (moment : ℕ) → FitsConsents l.fn.self history →
      FitsConsents l.self (with_changes history moment (withdrawals l.owner l.left));
  room : l.fn.self.room ≤ l.self.room;
}

abbrev pub decreases-loop-left : goal.decreases-loop-left
decreases-loop-left l = l.clients - l.left
