use Rattle.std.proofs.Common.{◌≡◌, ◌++◌, map, take}
use Rattle.std.specs.List.{flat_map}
use Rattle.etcd_json.specs.Requests.{compare_fact, compare_tokens}
use Rattle.etcd_json.proofs.paper.Paper.compares.Given as goal

abbrev pub invariant-loop-compare : goal.invariant-loop-compare
invariant-loop-compare l = l.self.json.tokens ≡ l.fn.self.json.tokens ++ flat_map compare_tokens (map compare_fact (take l.compare-index l.compares))
