use Rattle.std.proofs.Common.{◌≡◌, length}
use Rattle.std.specs.Prelude.{None}
use Rattle.cluster_file.specs.Places.{IsRead}
use Rattle.cluster_file.proofs.file.ClusterFile.forget.Given as goal

abbrev pub invariant-starts : goal.invariant-starts
invariant-starts g l = record {
  read : IsRead g.C.Cluster l.self;
  same : l.self ≡ record l.fn.self { piece = None; starts = l.self.starts; known = l.self.known };
}

abbrev pub decreases-starts : goal.decreases-starts
decreases-starts g l = length l.self.starts.items
