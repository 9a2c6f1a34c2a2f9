use Rattle.std.proofs.Common.{◌≡◌, length, sym, subst}
use Rattle.http_edge.proofs.Names.{connection_at, lane_at, rest_in, IsHeld}
use Rattle.http_edge.proofs.Showing.{shows_held}
use Rattle.http_edge.proofs.edge.Edge.held.Goals as goal

pub returns-clause-held : goal.returns-clause-held
returns-clause-held g c = λ journey reached.
    let now = rw (← c.self.view_is) at reached in
    let kept : c.held_in.result ≡ length (rest_in (lane_at c.self.inside.lanes.items c.args.c)) = rw c.deref.ensures.value at c.held_in.ensures in
    subst (λ n. IsHeld (connection_at journey.world.connections c.args.c) n) (sym kept) (shows_held c.self.inside.lanes.items journey.world.connections c.args.c now.shows)
