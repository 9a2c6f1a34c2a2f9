use Rattle.std.proofs.Common.{◌≡◌, ◌++◌, take}
use Rattle.batch_file.specs.Frames.{lists}
use Rattle.state_keeper.proofs.starting.add_all.Given as goal

abbrev pub invariant-loop-batch : goal.invariant-loop-batch
invariant-loop-batch l = l.frames ≡ l.initial.frames ++ lists (take l.batch-index l.behind)
