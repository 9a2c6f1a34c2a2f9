use Rattle.std.proofs.Common.{◌≡◌, ◌<◌, ℕ, length}
use Rattle.event_loop.proofs.Names.{promises, IsInTime, SettlesAll, running, keeping}
use Rattle.event_loop.proofs.tools.Tools.sweep.Given as goal

abbrev pub invariant-loop-k : goal.invariant-loop-k
invariant-loop-k g l = record {
  leads : SettlesAll (promises g.N.Sockets g.C.Clocks g.J.Journal (keeping g.K.Keeper) g.H.HookHost) (running l.initial.service l.initial.self) (running l.service l.self);
  below : (j : ℕ) → j < l.k → IsInTime l.service j;
  size : length l.service.places ≡ length l.initial.service.places;
}
