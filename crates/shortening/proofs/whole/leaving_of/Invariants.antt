use Rattle.std.proofs.Common.{◌≤◌, drop, length}
use Rattle.change_codec.specs.Spelling.{dated_facts}
use Rattle.shortening.specs.Steps.{IsDeciding}
use Rattle.shortening.proofs.whole.leaving_of.Given as goal

abbrev pub invariant-loop-at : goal.invariant-loop-at
invariant-loop-at l = record {
  within : l.at ≤ length l.changes;
  deciding : IsDeciding l.deciding (dated_facts l.changes) l.fn.moment (dated_facts (drop l.at l.changes));
}

abbrev pub decreases-loop-at : goal.decreases-loop-at
decreases-loop-at l = l.at
