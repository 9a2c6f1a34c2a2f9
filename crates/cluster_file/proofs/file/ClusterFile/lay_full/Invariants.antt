use Rattle.std.proofs.Common.{◌≡◌, ℕ, length}
use Rattle.std.specs.Prelude.{None}
use Rattle.cluster_file.specs.Devices.{GoesOn, IsBegun, KeepsSeen}
use Rattle.cluster_file.specs.Files.{written_beside}
use Rattle.cluster_file.proofs.file.ClusterFile.lay_full.Given as goal

abbrev pub invariant-pieces : goal.invariant-pieces
invariant-pieces g l = record {
  working : l.self.lost ≡ None;
  none : l.self.next ≡ None;
  begun : IsBegun g.C.Cluster l.self.cluster l.next;
  same : written_beside g.C.Cluster l.self.cluster l.next ≡ written_beside g.C.Cluster l.fn.self.cluster l.fn.next;
  seen : KeepsSeen g.C.Cluster l.fn.self l.self;
  goes_on : GoesOn g.C.Cluster l.fn.self l.self;
}

abbrev pub decreases-pieces : goal.decreases-pieces
decreases-pieces g l = length {A = ℕ} l.next.rest.items
