use Rattle.std.proofs.Common.{drop}
use Rattle.command_line.proofs.Hooking.{LeadsHooks}
use Rattle.command_line.proofs.hook_files.take_hooks.Given as goal

abbrev pub invariant-loop-read : goal.invariant-loop-read
invariant-loop-read l = LeadsHooks l.hooks l.chain l.codes.items (drop l.read-index l.hooks)
