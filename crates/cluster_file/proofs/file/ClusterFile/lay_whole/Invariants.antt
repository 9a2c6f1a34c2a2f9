use Rattle.std.proofs.Common.{◌≡◌, ◌≤◌, ◌-◌, drop, length}
use Rattle.std.specs.Prelude.{None, replicate}
use Rattle.cluster_file.specs.Devices.{GoesOn, IsBegun, KeepsSeen}
use Rattle.cluster_file.specs.Files.{written_beside}
use Rattle.cluster_file.proofs.file.ClusterFile.lay_whole.Given as goal

abbrev pub invariant-pieces : goal.invariant-pieces
invariant-pieces g l = record {
  working : l.self.lost ≡ None;
  none : l.self.next ≡ None;
  begun : IsBegun g.C.Cluster l.self.cluster l.next;
  same : written_beside g.C.Cluster l.self.cluster l.next ≡ written_beside g.C.Cluster l.fn.self.cluster l.fn.next;
  seen : KeepsSeen g.C.Cluster l.fn.self l.self;
  goes_on : GoesOn g.C.Cluster l.fn.self l.self;
  within : l.left ≤ length l.next.rest.items;
  zeros : drop l.left l.next.rest.items ≡ replicate (length l.next.rest.items - l.left) 0;
}

abbrev pub decreases-pieces : goal.decreases-pieces
decreases-pieces g l = l.left
