use Rattle.std.proofs.Common.{◌∙◌, sym, ap}
use Rattle.http_edge.proofs.Names.{eqb-true, SeenLane}
use Rattle.http_edge.proofs.Placing.{place_is, place_there}
use Rattle.http_edge.proofs.edge.place_of.Goals as goal

pub returns-then-eq : goal.returns-then-eq
returns-then-eq c =
    place_there c.args.lanes.now c.args.c c.get-place.result c.in-Some.lane.now c.requires.apart (sym c.in-Some.ensures.lookup.0) c.in-Some.ensures.lookup.1
    (ap (λ (l : SeenLane). l.number) (sym c.lane.view_is) ∙ eqb-true _ c.args.c (sym c.eq.ensures ∙ c.if-eq.true))

pub returns : goal.returns
returns c = rw c.position_of.ensures (place_is c.args.lanes.now c.args.c)
