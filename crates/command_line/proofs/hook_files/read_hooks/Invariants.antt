use Rattle.std.proofs.Common.{◌≡◌, map, take}
use Rattle.command_line.proofs.Names.{hook_said, in_file, said_of}
use Rattle.command_line.proofs.hook_files.read_hooks.Given as goal

abbrev pub invariant-loop-hook : goal.invariant-loop-hook
invariant-loop-hook g l = said_of (map in_file l.all.items) ≡ map hook_said (take l.hook-index l.hooks)
