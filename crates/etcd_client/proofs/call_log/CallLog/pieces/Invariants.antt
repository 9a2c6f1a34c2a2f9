use Rattle.std.proofs.Common.{◌≡◌, map, take}
use Rattle.etcd_cluster.specs.Stands.{piece_fact}
use Rattle.etcd_client.proofs.call_log.CallLog.pieces.Given as goal

abbrev pub invariant-loop-piece : goal.invariant-loop-piece
invariant-loop-piece l = record {
  pieces : l.self.log.pieces ≡ map piece_fact (take l.piece-index l.pieces);
  calls : l.self.log.calls ≡ l.fn.self.log.calls;
}
