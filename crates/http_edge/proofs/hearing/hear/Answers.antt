use Rattle.std.proofs.Common.{◌++◌, ℕ, List, refl, ap}
use Rattle.http_edge.specs.Rests.{SeenRest}
use Rattle.http_edge.proofs.Serving.{heard_none, refused_none}
use Rattle.http_edge.proofs.hearing.hear.Goals as goal

pub returns-then-waits-clause-heard : goal.returns-then-waits-clause-heard
returns-then-waits-clause-heard g c =
    let bytes : List ℕ = c.lane.inside.rest.bytes ++ c.args.piece.now in
    rw (← c.lane.view_is)
    (heard_none g.H.HookHost g.S.DrawSource c.args.server.now c.args.source.now c.args.tellings.now _ _ bytes c.args.moment
    (c.in-Ok.ensures.none c.if-waits.true) (ap (λ (r : SeenRest). r.bytes) (c.in-Ok.ensures.taken c.if-waits.true)) refl refl refl)

pub returns-in_default-clause-refused : goal.returns-in_default-clause-refused
returns-in_default-clause-refused g c = rw (← c.lane.view_is) (refused_none (c.lane.inside.rest.bytes ++ c.args.piece.now) _ c.in_default.ensures.err_none)
