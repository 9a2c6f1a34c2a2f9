use Rattle.std.proofs.Common.{◌≡◌, drop}
use Rattle.params.specs.Form.{value_sent}
use Rattle.params.proofs.params.Params.get.Given as goal

abbrev pub invariant-loop-known : goal.invariant-loop-known
invariant-loop-known l = value_sent l.fn.name l.self ≡ value_sent l.fn.name (drop l.known-index l.self)
