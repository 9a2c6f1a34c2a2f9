use Rattle.std.proofs.Common.{◌≡◌, ◌<◌, ◌≤◌, ℕ, IfSome, IfNone}
use Rattle.event_loop.proofs.Names.{InEach}
use Rattle.event_loop.proofs.Rooming.{IsThereFor, IsThereWithin}
use Rattle.event_loop.proofs.tools.Tools.eldest.Given as goal

abbrev pub invariant-loop-k : goal.invariant-loop-k
invariant-loop-k g l = record {
  found : IfSome l.eldest (λ found. IsThereFor g.H.HookHost l.self.edge l.service l.guest found l.most);
  nobody : IfNone l.eldest (l.most ≡ l.service.limits.crowded);
  bound : l.service.limits.crowded ≤ l.most;
  within : InEach g.H.HookHost l.self.edge (λ world. (j : ℕ) → j < l.k → IsThereWithin l.service l.guest l.most world j);
}
