use Rattle.std.proofs.Common.{◌≡◌, ◌≤◌, ◌-◌}
use Rattle.cluster_file.specs.Devices.{LeavesNoMore, Proceeds}
use Rattle.cluster_file.specs.Files.{IsLaid}
use Rattle.cluster_file.proofs.file.ClusterFile.lay_all.Given as goal

abbrev pub invariant-pieces : goal.invariant-pieces
invariant-pieces g l = record {
  laid : IsLaid g.C.Cluster l.fn.self l.self l.at;
  proceeds : Proceeds g.C.Cluster l.fn.self l.self;
  left : LeavesNoMore g.C.Cluster l.fn.self l.self;
  within : l.at ≤ l.fn.size;
  end : l.end ≡ l.fn.self.standing.head.end;
}

abbrev pub decreases-pieces : goal.decreases-pieces
decreases-pieces g l = l.fn.size - l.at
