use Rattle.std.proofs.Common.{◌≡◌, ◌++◌}
use Rattle.hook_commands.specs.BytesTold.{bytes_each}
use Rattle.hook_commands.proofs.bytes_told.tell_bytes.Given as goal

abbrev pub invariant-loop-byte : goal.invariant-loop-byte
invariant-loop-byte l = l.told.items ≡ l.initial.told.items ++ bytes_each l.stack l.from l.byte
