use Rattle.std.proofs.Common.{◌≡◌, ◌++◌, take}
use Rattle.std.specs.List.{flat_map}
use Rattle.metrics.specs.Text.{request_line}
use Rattle.metrics.proofs.page.Page.requests_at.Given as goal

abbrev pub invariant-loop-endpoint : goal.invariant-loop-endpoint
invariant-loop-endpoint l = l.self.text.items ≡ l.fn.self.text.items ++ flat_map (request_line l.asked) (take l.endpoint-index l.endpoints)
