use Rattle.std.proofs.Common.{List, ℕ, ◌++◌, take, Some}
use Rattle.batch_file.specs.Frames.{lists}
use Rattle.file_copy.specs.Copies.{AreBehind, AreGathered}
use Rattle.file_copy.proofs.placing.gather_behind.Given as goal

abbrev pub invariant-loop-batch : goal.invariant-loop-batch
invariant-loop-batch l = (written : List ℕ) (batches : List (List ℕ)) → AreBehind written batches l.fn.front → AreGathered (Some written) (batches ++ lists (take l.batch-index l.behind)) l.whole
