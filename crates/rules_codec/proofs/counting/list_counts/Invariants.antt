use Rattle.std.proofs.Common.{take, All}
use Rattle.rules_codec.proofs.counting.list_counts.Given as goal

abbrev pub invariant-loop-item : goal.invariant-loop-item
invariant-loop-item g l = All (λ x. g.T.Counted.spelled.Counts (g.T.Counted.fact x)) (take l.item-index l.items)
