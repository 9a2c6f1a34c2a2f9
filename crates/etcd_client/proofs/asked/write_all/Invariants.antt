use Rattle.std.proofs.Common.{◌≡◌, ◌++◌, map, take}
use Rattle.std.specs.List.{flat_map}
use Rattle.etcd_cluster.specs.Stands.{write_fact}
use Rattle.etcd_json.specs.Requests.{operation_tokens}
use Rattle.etcd_client.specs.Asked.{write_operations}
use Rattle.etcd_client.proofs.asked.write_all.Given as goal

abbrev pub invariant-loop-write : goal.invariant-loop-write
invariant-loop-write l =
    l.paper.json.tokens ≡ l.fn.paper.json.tokens
    ++ flat_map operation_tokens (flat_map (write_operations l.names.prefix.items) (map write_fact (take l.write-index l.writes)))
