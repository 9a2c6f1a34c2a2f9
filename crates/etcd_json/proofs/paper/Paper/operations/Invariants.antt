use Rattle.std.proofs.Common.{◌≡◌, ◌++◌, map, take}
use Rattle.std.specs.List.{flat_map}
use Rattle.etcd_json.specs.Requests.{operation_fact, operation_tokens}
use Rattle.etcd_json.proofs.paper.Paper.operations.Given as goal

abbrev pub invariant-loop-operation : goal.invariant-loop-operation
invariant-loop-operation l = l.self.json.tokens ≡ l.fn.self.json.tokens ++ flat_map operation_tokens (map operation_fact (take l.operation-index l.operations))
