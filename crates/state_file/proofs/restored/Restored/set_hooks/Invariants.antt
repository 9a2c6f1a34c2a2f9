use Rattle.std.proofs.Common.{◌≡◌, map, take}
use Rattle.state_file.proofs.Names.{hook_fact, Sets}
use Rattle.state_file.proofs.restored.Restored.set_hooks.Given as goal

abbrev pub invariant-loop-hook : goal.invariant-loop-hook
invariant-loop-hook g l = record {
  set : Sets g.H.HookHost l.fn.self (map hook_fact (take l.hook-index l.hooks)) l.self;
  moment : l.self.moment ≡ l.fn.self.moment;
}
