use Rattle.std.proofs.Common.{◌≡◌, ◌∙◌}
use Rattle.http_edge.specs.Lanes.{lane_at, output_in}
use Rattle.http_edge.proofs.Showing.{shows_output}
use Rattle.http_edge.proofs.edge.Edge.output.Goals as goal

pub returns-clause-output : goal.returns-clause-output
returns-clause-output g c = λ journey reached.
    let now = rw (← c.self.view_is) at reached in
    let kept : c.output_in.result.now ≡ output_in (lane_at c.self.inside.lanes.items c.args.c) = rw c.deref.ensures.value at c.output_in.ensures in
    kept ∙ shows_output c.self.inside.lanes.items journey.world.connections c.args.c now.shows
