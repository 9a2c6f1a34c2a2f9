use Rattle.hook_commands.specs.BytesTold.{TellsBlocks}
use Rattle.hook_commands.proofs.bytes_told.blocks_told.Given as goal

abbrev pub invariant-loop-block : goal.invariant-loop-block
invariant-loop-block l = TellsBlocks l.stack l.first l.block l.told.items
