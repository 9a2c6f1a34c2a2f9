use Rattle.std.proofs.Common.{◌≡◌, ◌≤◌}
use Rattle.std.specs.Prelude.{Err}
use Rattle.etcd_cluster.specs.Calls.{AskedHead}
use Rattle.etcd_cluster.specs.Sides.{IsSilent, MayHaveMoved}
use Rattle.etcd_cluster.specs.Stands.{ChangeFact}
use Rattle.etcd_cluster.specs.declared.change.CallFault.TheVariants.{Unclear}
use Rattle.etcd_cluster.proofs.Again.{HasAsked}
use Rattle.etcd_cluster.proofs.settling.ask_head.Given as goal

abbrev pub invariant-asks : goal.invariant-asks
invariant-asks g l = record {
  moved : IsSilent g.C.Cluster l.fn.cluster l.cluster;
  meanwhile : MayHaveMoved g.C.Cluster l.fn.cluster l.cluster (g.C.Cluster.sent l.fn.cluster);
  sent : (one : ChangeFact) → g.C.Cluster.sent l.cluster one → g.C.Cluster.sent l.fn.cluster one;
  asked : HasAsked l.fn.more l.left (AskedHead (Err Unclear)) (g.C.Cluster.calls l.fn.cluster) (g.C.Cluster.calls l.cluster);
  stand : g.C.Cluster.stand l.cluster ≡ g.C.Cluster.stand l.fn.cluster;
  server : g.C.Cluster.server l.cluster ≡ g.C.Cluster.server l.fn.cluster;
  moment : g.C.Cluster.moment l.fn.cluster ≤ g.C.Cluster.moment l.cluster;
}

abbrev pub decreases-asks : goal.decreases-asks
decreases-asks g l = l.left
