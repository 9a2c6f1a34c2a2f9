use Rattle.std.proofs.Common.{arith, ◌∙◌, ap, sym, subst, refl}
use Rattle.http_edge.proofs.Names.{lane_at, AreApart}
use Rattle.http_edge.proofs.Going.{on_forgotten}
use Rattle.http_edge.proofs.Placing.{without_is_gone, apart_without}
use Rattle.http_edge.proofs.edge.Edge.forget.Goals as goal

pub returns-clause-forgotten : goal.returns-clause-forgotten
returns-clause-forgotten g c = λ journey reached.
    let now = rw (← c.self.view_is) at reached in
    on_forgotten g.H.HookHost _ _ c.args.c refl c.remove_lane.ensures.without journey now

pub returns-clause-gone : goal.returns-clause-gone
returns-clause-gone g c = ap (λ lanes. lane_at lanes c.args.c) c.remove_lane.ensures.without ∙ without_is_gone c.self.inside.lanes.items c.args.c

pub invariant_of-self : goal.invariant_of-self
invariant_of-self g c = (c.self.invariant.0, λ some. c.self.invariant.1 (let fewer = c.remove_lane.ensures.fewer in omega (arith, some, fewer)), subst AreApart (sym c.remove_lane.ensures.without) (apart_without c.self.inside.lanes.items c.args.c c.self.invariant.2))
