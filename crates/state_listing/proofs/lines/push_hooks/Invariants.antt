use Rattle.std.proofs.Common.{◌≡◌, ◌++◌, map, take}
use Rattle.std.specs.List.{flat_map}
use Rattle.rules_codec.specs.Facts.{hook_fact}
use Rattle.state_listing.specs.Lines.{hook_line}
use Rattle.state_listing.proofs.lines.push_hooks.Given as goal

abbrev pub invariant-loop-hook : goal.invariant-loop-hook
invariant-loop-hook l = l.lines.items ≡ l.fn.lines.items ++ flat_map hook_line (map hook_fact (take l.hook-index l.hooks))
