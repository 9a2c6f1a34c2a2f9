use Rattle.std.proofs.Common.{◌≡◌, ◌⊎◌, ◌≤◌}
use Rattle.std.specs.Prelude.{Err}
use Rattle.etcd_cluster.specs.Calls.{Sent}
use Rattle.etcd_cluster.specs.Sides.{IsUntold, MayHaveMoved, may_come}
use Rattle.etcd_cluster.specs.Stands.{ChangeFact, change_fact}
use Rattle.etcd_cluster.specs.declared.change.CallFault.TheVariants.{Unclear}
use Rattle.etcd_cluster.proofs.Again.{HasAsked}
use Rattle.etcd_cluster.proofs.settling.send_again.Given as goal

abbrev pub invariant-sends : goal.invariant-sends
invariant-sends g l = record {
  moved : IsUntold g.C.Cluster l.fn.cluster l.cluster (change_fact l.change);
  meanwhile : MayHaveMoved g.C.Cluster l.fn.cluster l.cluster (may_come g.C.Cluster l.fn.cluster (change_fact l.change));
  sent : (one : ChangeFact) → g.C.Cluster.sent l.cluster one → (one ≡ change_fact l.change) ⊎ g.C.Cluster.sent l.fn.cluster one;
  asked : HasAsked l.fn.more l.left (Sent (change_fact l.change) (Err Unclear)) (g.C.Cluster.calls l.fn.cluster) (g.C.Cluster.calls l.cluster);
  stand : g.C.Cluster.stand l.cluster ≡ g.C.Cluster.stand l.fn.cluster;
  server : g.C.Cluster.server l.cluster ≡ g.C.Cluster.server l.fn.cluster;
  moment : g.C.Cluster.moment l.fn.cluster ≤ g.C.Cluster.moment l.cluster;
}

abbrev pub decreases-sends : goal.decreases-sends
decreases-sends g l = l.left
