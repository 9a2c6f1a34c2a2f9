use Rattle.std.proofs.Common.{◌≤◌, length}
use Rattle.event_loop.proofs.Names.{promises, LeadsFurther, running, keeping}
use Rattle.event_loop.proofs.tools.Tools.read_more.Given as goal

abbrev pub invariant-loop-nth : goal.invariant-loop-nth
invariant-loop-nth g l = record {
  further : LeadsFurther (promises g.N.Sockets g.C.Clocks g.J.Journal (keeping g.K.Keeper) g.H.HookHost) l.nth (running l.initial.service l.initial.self) (running l.service l.self);
  room : 65 ≤ length l.found;
  most : l.nth ≤ 3;
}
