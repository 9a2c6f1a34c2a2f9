use Rattle.std.proofs.Common.{◌≡◌, map, take}
use Rattle.command_line.proofs.Names.{hook_fact, hook_fact_of}
use Rattle.command_line.proofs.hook_files.kept_hooks.Given as goal

abbrev pub invariant-loop-code : goal.invariant-loop-code
invariant-loop-code l = map hook_fact l.kept.items ≡ map hook_fact_of (take l.code-index l.codes)
