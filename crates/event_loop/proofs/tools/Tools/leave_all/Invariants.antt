use Rattle.std.proofs.Common.{ℕ, ◌<◌, ◌≡◌, length}
use Rattle.event_loop.proofs.Names.{IsFreeAt, promises, LeadsShut, running, keeping}
use Rattle.event_loop.proofs.tools.Tools.leave_all.Given as goal

abbrev pub invariant-loop-k : goal.invariant-loop-k
invariant-loop-k g l = record {
  shut : LeadsShut (promises g.N.Sockets g.C.Clocks g.J.Journal (keeping g.K.Keeper) g.H.HookHost) l.fault (running l.initial.service l.initial.self) (running l.service l.self);
  size : length l.service.places ≡ length l.initial.service.places;
  free : (j : ℕ) → j < l.k → IsFreeAt l.service.places j;
}
