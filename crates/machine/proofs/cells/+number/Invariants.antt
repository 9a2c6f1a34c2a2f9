use Rattle.std.proofs.Common.{length}
use Rattle.machine.proofs.cells.+number.Given as goal

abbrev pub decreases-number : goal.decreases-number
decreases-number l = length l.cells.now
