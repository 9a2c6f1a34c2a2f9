use Rattle.std.proofs.Common.{◌-◌, ◌≡◌, ◌≤◌, ℕ, List}
use Rattle.consent.specs.History.{Event, consents_of}
use Rattle.consent.specs.Consents.{FitsConsents}
use Rattle.consent.proofs.consents.Consents.count_of.Given as goal

abbrev pub invariant-loop-seen : goal.invariant-loop-seen
invariant-loop-seen l = record {
  inside : l.seen ≤ l.clients;
  few : l.count ≤ l.seen;
  counted : (history : List Event) → FitsConsents l.self history → l.count ≡ consents_of history l.owner l.seen;
}

abbrev pub decreases-loop-seen : goal.decreases-loop-seen
decreases-loop-seen l = l.clients - l.seen
