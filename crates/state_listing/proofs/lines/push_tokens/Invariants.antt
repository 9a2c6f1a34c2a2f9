use Rattle.std.proofs.Common.{◌≡◌, ◌++◌, map, take}
use Rattle.std.specs.List.{flat_map}
use Rattle.consent.specs.RecordFacts.{record_fact}
use Rattle.rules_codec.specs.Facts.{rules_fact}
use Rattle.state_listing.specs.Lines.{token_line}
use Rattle.state_listing.proofs.lines.push_tokens.Given as goal

abbrev pub invariant-loop-kept : goal.invariant-loop-kept
invariant-loop-kept l = l.lines.items ≡ l.fn.lines.items ++ flat_map (token_line (rules_fact l.rules)) (map record_fact (take l.kept-index l.records))
