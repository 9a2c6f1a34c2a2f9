use Rattle.std.proofs.Common.{◌≡◌, length, sym, subst}
use Rattle.http_edge.proofs.Names.{lane_at}
use Rattle.http_edge.proofs.Ends.{shows_left}
use Rattle.http_edge.specs.LanesParts.{AreLeftIn}
use Rattle.http_edge.proofs.edge.Edge.left_of_reply.Goals as goal

pub returns-clause-left : goal.returns-clause-left
returns-clause-left g c = λ journey reached.
    let now = rw (← c.self.view_is) at reached in
    let left : AreLeftIn (lane_at c.self.inside.lanes.items c.args.c) c.left_in.result = rw c.deref.ensures.value at c.left_in.ensures in
    shows_left c.self.inside.lanes.items journey.world.connections c.args.c c.left_in.result now.shows left
