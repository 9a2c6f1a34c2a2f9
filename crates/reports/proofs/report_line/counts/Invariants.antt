use Rattle.std.proofs.Common.{◌≡◌, ◌++◌, take}
use Rattle.std.specs.List.{flat_map}
use Rattle.reports.specs.ReportTokens.{endpoint_tokens}
use Rattle.reports.proofs.report_line.counts.Given as goal

-- the counts so far
abbrev pub invariant-loop-endpoint : goal.invariant-loop-endpoint
invariant-loop-endpoint l =
    l.line.json.tokens ≡ l.fn.line.json.tokens ++ flat_map (endpoint_tokens l.asked) (take l.endpoint-index l.endpoints)
