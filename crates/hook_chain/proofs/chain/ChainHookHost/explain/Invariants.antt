use Rattle.std.proofs.Common.{◌≡◌, ◌++◌, drop}
use Rattle.hook_chain.specs.Turns.{left_in_turn, verdicts_of}
use Rattle.hook_chain.proofs.chain.ChainHookHost.explain.Given as goal

-- what is told so far and what the hooks will leave are what all leave
abbrev pub invariant-loop-hook : goal.invariant-loop-hook
invariant-loop-hook l = l.verdicts ++ left_in_turn l.fn.ask l.left (drop l.hook-index l.hook-items) ≡ verdicts_of l.hook-items l.fn.ask
