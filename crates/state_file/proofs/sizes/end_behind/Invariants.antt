use Rattle.std.proofs.Common.{◌≡◌, ◌+◌, take}
use Rattle.state_file.proofs.Names.{frames_size, lists}
use Rattle.state_file.proofs.sizes.end_behind.Given as goal

abbrev pub invariant-loop-batch : goal.invariant-loop-batch
invariant-loop-batch l = l.all ≡ l.fn.end + frames_size (lists (take l.batch-index l.batches))
