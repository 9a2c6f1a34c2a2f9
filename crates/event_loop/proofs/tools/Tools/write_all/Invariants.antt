use Rattle.std.proofs.Common.{◌≡◌, ◌≤◌, ◌<◌, ℕ, Some, false, slice_get}
use Rattle.event_loop.proofs.Names.{promises, LeadsWriting, running, keeping}
use Rattle.event_loop.proofs.tools.Tools.write_all.Given as goal

abbrev pub invariant-loop-k : goal.invariant-loop-k
invariant-loop-k g l = record {
  due : (j : ℕ) → l.k-end ≤ j → j < 64 → slice_get l.service.due j ≡ Some false;
  writes : LeadsWriting (promises g.N.Sockets g.C.Clocks g.J.Journal (keeping g.K.Keeper) g.H.HookHost) l.k (running l.initial.service l.initial.self) (running l.service l.self);
}
