use Rattle.std.proofs.Common.{◌≡◌, ◌≤◌, ◌-◌, drop, length, take}
use Rattle.etcd_cluster.specs.Calls.{AreTrue}
use Rattle.cluster_file.specs.Files.{seen_of}
use Rattle.cluster_file.specs.Looks.{Learns}
use Rattle.cluster_file.proofs.file.ClusterFile.read_on.Given as goal

abbrev pub invariant-parts : goal.invariant-parts
invariant-parts g l = record {
  learns : Learns g.C.Cluster l.fn.self l.self;
  few : length l.out.items ≤ l.fn.size;
  read : AreTrue (g.C.Cluster.calls l.self.cluster) → l.out.items ≡ take (length l.out.items) (drop l.fn.at (seen_of g.C.Cluster l.fn.self));
}

abbrev pub decreases-parts : goal.decreases-parts
decreases-parts g l = l.fn.size - length l.out.items
