use Rattle.std.proofs.Common.{◌≡◌}
use Rattle.hook_commands.specs.BytesTold.{are_unset}
use Rattle.hook_commands.proofs.bytes_told.are_unset.Given as goal

abbrev pub invariant-loop-byte : goal.invariant-loop-byte
invariant-loop-byte l = l.unset ≡ are_unset l.stack l.from l.byte
