use Rattle.std.proofs.Common.{◌<◌}
use Rattle.event_loop.proofs.Names.{promises, InEach, IsCalm, IsRoomMadeIn, LeadsToAccepts, running, keeping}
use Rattle.event_loop.proofs.tools.Tools.admit_all.Given as goal

abbrev pub invariant-loop-nth : goal.invariant-loop-nth
invariant-loop-nth g l = record {
  leads : LeadsToAccepts (promises g.N.Sockets g.C.Clocks g.J.Journal (keeping g.K.Keeper) g.H.HookHost) (0 < l._nth) (running l.initial.service l.initial.self) (running l.service l.self);
  calm : IsCalm l.initial.service → IsCalm l.service;
  room : InEach g.H.HookHost l.initial.self.edge (IsRoomMadeIn l.initial.service) → InEach g.H.HookHost l.self.edge (IsRoomMadeIn l.service);
}
