use Rattle.std.proofs.Common.{length}
use Rattle.hook_commands.proofs.HexReading.{IsRead}
use Rattle.hook_commands.proofs.hex_text.bytes_of_hex.Given as goal

abbrev pub invariant-loop-first : goal.invariant-loop-first
invariant-loop-first l = IsRead l.text l.bytes.items l.rest

abbrev pub decreases-loop-first : goal.decreases-loop-first
decreases-loop-first l = length l.rest
