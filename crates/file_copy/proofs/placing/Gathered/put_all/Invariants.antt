use Rattle.std.proofs.Common.{◌≡◌, List, ℕ, ◌++◌, take}
use Rattle.file_copy.specs.Copies.{AreGathered, KeepsAside}
use Rattle.batch_file.specs.Frames.{lists}
use Rattle.file_copy.proofs.placing.Gathered.put_all.Given as goal

abbrev pub invariant-loop-batch : goal.invariant-loop-batch
invariant-loop-batch g l = record {
  added : (front : List (List ℕ)) → AreGathered (g.D.Device.next l.fn.device) front l.fn.self → AreGathered (g.D.Device.next l.device) (front ++ lists (take l.batch-index l.batches)) l.self;
  seen : g.D.Device.seen l.device ≡ g.D.Device.seen l.fn.device;
  aside : KeepsAside g.D.Device l.fn.device l.device;
}
