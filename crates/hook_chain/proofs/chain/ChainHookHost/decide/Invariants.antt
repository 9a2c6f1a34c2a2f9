use Rattle.std.proofs.Common.{◌≡◌, take}
use Rattle.std.specs.List.{fold}
use Rattle.hook_record.specs.declared.Narrowed.TheVariants.{Allowed}
use Rattle.hook_chain.specs.Chains.{hooks_of}
use Rattle.hook_chain.specs.Exits.{narrowed_further}
use Rattle.hook_chain.proofs.chain.ChainHookHost.decide.Given as goal

abbrev pub invariant-loop-hook : goal.invariant-loop-hook
invariant-loop-hook l = l.left ≡ fold (narrowed_further l.fn.ask) (Allowed l.fn.ask.scope l.fn.ask.life) (hooks_of (take l.hook-index l.hook-items))
