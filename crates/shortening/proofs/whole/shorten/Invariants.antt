use Rattle.std.proofs.Common.{◌≡◌, ◌++◌, drop}
use Rattle.change_codec.specs.Spelling.{dated_facts}
use Rattle.shortening.specs.Shortened.{shortened}
use Rattle.shortening.specs.Steps.{IsLeaving, keeps_of, picked}
use Rattle.shortening.proofs.whole.shorten.Given as goal

abbrev pub invariant-loop-at : goal.invariant-loop-at
invariant-loop-at l = record {
  asked : IsLeaving l.leaving (keeps_of l.fn.moment (dated_facts l.changes) (dated_facts (drop l.at l.changes)));
  left_is : dated_facts l.left.items ++ picked (keeps_of l.fn.moment (dated_facts l.changes) (dated_facts (drop l.at l.changes))) (dated_facts (drop l.at l.changes))
      ≡ shortened l.fn.moment (dated_facts l.changes);
}
