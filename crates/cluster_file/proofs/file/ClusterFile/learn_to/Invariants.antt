use Rattle.std.proofs.Common.{◌≡◌, ◌-◌}
use Rattle.cluster_file.specs.Looks.{Learns}
use Rattle.cluster_file.proofs.file.ClusterFile.learn_to.Given as goal

abbrev pub invariant-pieces : goal.invariant-pieces
invariant-pieces g l = record {
  learns : Learns g.C.Cluster l.fn.self l.self;
  end : l.end ≡ l.fn.self.standing.head.end;
}

abbrev pub decreases-pieces : goal.decreases-pieces
decreases-pieces g l = l.end - l.self.known
