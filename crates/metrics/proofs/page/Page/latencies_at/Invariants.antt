use Rattle.std.proofs.Common.{◌≡◌, ◌++◌, take}
use Rattle.std.specs.List.{flat_map}
use Rattle.metrics.specs.Text.{latency_text}
use Rattle.metrics.proofs.page.Page.latencies_at.Given as goal

abbrev pub invariant-loop-endpoint : goal.invariant-loop-endpoint
invariant-loop-endpoint l = l.self.text.items ≡ l.fn.self.text.items ++ flat_map (latency_text l.latencies) (take l.endpoint-index l.endpoints)
