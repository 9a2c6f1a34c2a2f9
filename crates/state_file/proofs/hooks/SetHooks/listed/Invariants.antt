use Rattle.std.proofs.Common.{◌≡◌, map, take}
use Rattle.rules_codec.specs.Facts.{hook_fact}
use Rattle.state_file.proofs.hooks.SetHooks.listed.Given as goal

abbrev pub invariant-loop-hook : goal.invariant-loop-hook
invariant-loop-hook l = map hook_fact l.list.items ≡ take l.hook-index l.hook-items
