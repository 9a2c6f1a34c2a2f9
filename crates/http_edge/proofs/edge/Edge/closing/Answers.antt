use Rattle.std.proofs.Common.{arith}
use Rattle.http_edge.proofs.Showing.{shows_at}
use Rattle.http_edge.proofs.edge.Edge.closing.Goals as goal

pub returns : goal.returns
returns g c = λ journey reached.
    let now = rw (← c.self.view_is) at reached in
    let at = shows_at c.self.inside.lanes.items journey.world.connections c.args.c now.shows in
    let kept = rw c.deref.ensures.value at c.is_closing.ensures in
    grind (arith, kept, at)
