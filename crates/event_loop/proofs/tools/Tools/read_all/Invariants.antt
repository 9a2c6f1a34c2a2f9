use Rattle.std.proofs.Common.{◌≡◌}
use Rattle.event_loop.proofs.Names.{promises, LeadsReading, running, keeping}
use Rattle.event_loop.proofs.tools.Tools.read_all.Given as goal

abbrev pub invariant-loop-k : goal.invariant-loop-k
invariant-loop-k g l = record {
  due : l.service.due ≡ l.initial.service.due;
  reads : LeadsReading (promises g.N.Sockets g.C.Clocks g.J.Journal (keeping g.K.Keeper) g.H.HookHost) l.k (running l.initial.service l.initial.self) (running l.service l.self);
}
