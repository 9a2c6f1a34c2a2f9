use Rattle.std.proofs.Common.{length}
use Rattle.chains.specs.Chained.{steps}
use Rattle.chains.proofs.Walking.{IsOnWay}
use Rattle.chains.proofs.chains.Chains.cell_before.Given as goal

abbrev pub invariant-loop-cell : goal.invariant-loop-cell
invariant-loop-cell l = IsOnWay l.self l.list l.number l.cell

abbrev pub decreases-loop-cell : goal.decreases-loop-cell
decreases-loop-cell l = steps (length l.self.cells.items) l.self.cells.items l.self.heads l.cell
