use Rattle.std.proofs.Common.{◌≤◌, ◌<◌, ◌+◌, ◌^◌, ℕ, List}
use Rattle.state_keeper.specs.Passing.{IsWay, KeepsFile, LeadsOn, SlicesOn, hand, to_go_in}
use Rattle.state_keeper.proofs.passing.go_over.Given as goal

abbrev pub invariant-loop-gone : goal.invariant-loop-gone
invariant-loop-gone g l = record {
  small : l.limit ≤ 2 ^ 15;
  keeps : KeepsFile g.D.Device l.fn.file l.file;
  leads : LeadsOn g.D.Device l.rules (hand l.fn.file l.fn.course l.fn.stage) (hand l.file l.course l.stage);
  total : g.D.Device.reads_true l.file.device → (front : List (List ℕ)) → IsWay g.D.Device l.rules front (hand l.fn.file l.fn.course l.fn.stage) → l.gone < 2 ^ 15 →
      to_go_in l.fn.course l.fn.stage l.fn.file.end ≤ to_go_in l.course l.stage l.fn.file.end + l.gone;
  slice : SlicesOn g.D.Device l.rules (hand l.fn.file l.fn.course l.fn.stage) (hand l.file l.course l.stage);
}

abbrev pub decreases-loop-gone : goal.decreases-loop-gone
decreases-loop-gone g l = to_go_in l.course l.stage l.file.end
