use Rattle.std.proofs.Common.{◌≡◌, length, ℕ}
use Rattle.disk_file.proofs.file.write_zeros.Given as goal

abbrev pub invariant-loop-left : goal.invariant-loop-left
invariant-loop-left g l = length l.zeros.items ≡ 65536

abbrev pub decreases-loop-left : goal.decreases-loop-left
decreases-loop-left g l = l.left
