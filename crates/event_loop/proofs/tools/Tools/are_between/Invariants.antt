use Rattle.std.proofs.Common.{◌≡◌, ◌<◌, ℕ, Some, slice_get}
use Rattle.event_loop.proofs.Names.{InEach, IsBetween, IsOccupied, Place, connection_at}
use Rattle.event_loop.proofs.tools.Tools.are_between.Given as goal

abbrev pub invariant-loop-k : goal.invariant-loop-k
invariant-loop-k g l = InEach g.H.HookHost l.self.edge (λ world. (j : ℕ) → j < l.k → (place : Place) → slice_get l.service.places j ≡ Some place → IsOccupied place.stage →
    IsBetween place (connection_at world.connections j))
