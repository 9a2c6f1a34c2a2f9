use Rattle.std.proofs.Common.{◌≡◌, map, take}
use Rattle.etcd_cluster.specs.Stands.{write_fact}
use Rattle.etcd_client.proofs.call_log.CallLog.writes.Given as goal

abbrev pub invariant-loop-write : goal.invariant-loop-write
invariant-loop-write l = record {
  writes : l.self.log.writes ≡ map write_fact (take l.write-index l.writes);
  calls : l.self.log.calls ≡ l.fn.self.log.calls;
}
