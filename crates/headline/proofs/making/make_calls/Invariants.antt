use Rattle.std.proofs.Common.{take}
use Rattle.headline.proofs.Names.{outset_of, IsMade}
use Rattle.headline.proofs.making.make_calls.Given as goal

-- the calls so far were made
abbrev pub invariant-loop-call : goal.invariant-loop-call
invariant-loop-call g l = IsMade g.H.HookHost (outset_of l.fn.rules l.fn.host) (take l.call-index l.calls) l.upshots.items l.edge
