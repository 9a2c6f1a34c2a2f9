use Rattle.std.proofs.Common.{◌≡◌, arith}
use Rattle.hook_commands.proofs.bytes_told.are_unset.Goals as goal

pub returns : goal.returns
returns c = let all : c.loop-byte.byte ≡ 8 = omega arith in rw all at c.loop-byte.invariant
