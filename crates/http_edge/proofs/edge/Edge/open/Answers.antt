use Rattle.std.proofs.Common.{rules, subst, ◌≡◌, None, sym, length, ◌<◌, refl, arith}
use Rattle.http_edge.proofs.Names.{is_some, lane_at, AreApart}
use Rattle.http_edge.proofs.Placing.{apart_more}
use Rattle.http_edge.proofs.Going.{on_opened}
use Rattle.http_edge.proofs.edge.Edge.open.Goals as goal

pub returns-clause-done : goal.returns-clause-done
returns-clause-done g c = λ journey reached.
    let lanes = c.self.inside.lanes.items in
    let now = rw (← c.self.view_is) at reached in
    let known : c.has_lane.result ≡ is_some (lane_at lanes c.args.c) = rw c.deref.ensures.value at c.has_lane.ensures in
    let none : lane_at lanes c.args.c ≡ None = grind (arith, known, c.if-has_lane.false) in
    let few : length lanes < 64 = (let size = c.len.ensures in let test = c.if-len-ge-CONNECTION_LIMIT.false in omega (arith, size, test)) in
    on_opened g.H.HookHost _ _ c.args.c refl none few c.in-Ok-add_lane.ensures.added journey now

pub invariant_of-self-2 : goal.invariant_of-self-2
invariant_of-self-2 g c =
    let lanes = c.self.inside.lanes.items in
    let known : c.has_lane.result ≡ is_some (lane_at lanes c.args.c) = rw c.deref.ensures.value at c.has_lane.ensures in
    let none : lane_at lanes c.args.c ≡ None = grind (arith, known, c.if-has_lane.false) in
    (search rules, search rules, subst AreApart (sym c.in-Ok-add_lane.ensures.added) (apart_more lanes c.args.c c.self.invariant.2 none))
