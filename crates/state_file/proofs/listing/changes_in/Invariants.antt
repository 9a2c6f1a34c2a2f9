use Rattle.std.proofs.Common.{take}
use Rattle.state_file.proofs.Names.{AreTold, dated_facts, lists}
use Rattle.state_file.proofs.listing.changes_in.Given as goal

abbrev pub invariant-loop-batch : goal.invariant-loop-batch
invariant-loop-batch l = AreTold (lists (take l.batch-index l.batches)) (dated_facts l.list.items)
