use Rattle.std.proofs.Common.{add-one}
use Rattle.hook_commands.proofs.bytes_told.blocks_told.Goals as goal

-- one block more is told
pub loop-block-preserved : goal.loop-block-preserved
loop-block-preserved c = rw add-one (c.loop-block.told.items, c.loop-block.invariant, c.in_ok-tell_block.ensures)
