use Rattle.event_loop.proofs.Names.{promises, LeadsRound, running, keeping}
use Rattle.event_loop.proofs.tools.Tools.rounds.Given as goal

abbrev pub invariant-loop-nth : goal.invariant-loop-nth
invariant-loop-nth g l = LeadsRound (promises g.N.Sockets g.C.Clocks g.J.Journal (keeping g.K.Keeper) g.H.HookHost) l._nth (running l.initial.service l.initial.self) (running l.service l.self)
