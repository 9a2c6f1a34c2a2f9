use Rattle.std.proofs.Common.{length}
use Rattle.machine.proofs.cells.+is_parts.Given as goal

abbrev pub decreases-is_parts : goal.decreases-is_parts
decreases-is_parts l = length l.cells.now
