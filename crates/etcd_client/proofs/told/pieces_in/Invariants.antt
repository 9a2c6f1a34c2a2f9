use Rattle.std.proofs.Common.{◌≡◌, ◌++◌, length, map}
use Rattle.std.specs.Prelude.{option_map}
use Rattle.etcd_cluster.specs.Stands.{piece_fact}
use Rattle.etcd_json.specs.Replies.{entry_fact}
use Rattle.etcd_client.specs.Told.{each, piece_told}
use Rattle.etcd_client.proofs.told.pieces_in.Given as goal

abbrev pub decreases-loop-rest : goal.decreases-loop-rest
decreases-loop-rest l = length l.rest

abbrev pub invariant-loop-rest : goal.invariant-loop-rest
invariant-loop-rest l =
    each (piece_told l.before) (map entry_fact l.fn.entries)
    ≡ option_map (λ more. map piece_fact l.pieces.items ++ more) (each (piece_told l.before) (map entry_fact l.rest))
