use Rattle.std.proofs.Common.{◌∙◌, sym, ap}
use Rattle.http_edge.proofs.Names.{option_copied, IsPlace}
use Rattle.http_edge.proofs.Placing.{got_lane}
use Rattle.http_edge.proofs.edge.lane_of.Goals as goal

pub returns-in_err-place : goal.returns-in_err-place
returns-in_err-place c = ap option_copied c.from_residual.ensures ∙ sym c.in_err-place.ensures

pub returns : goal.returns
returns c =
    let place : IsPlace c.args.lanes.now c.args.c c.in_ok-place.place = c.in_ok-place.ensures in
    got_lane c.args.lanes.now c.in_ok-place.place c.get.result place.lane c.get.ensures.lookup.0 c.get.ensures.lookup.1 place.within place.there ∙ sym place.here
