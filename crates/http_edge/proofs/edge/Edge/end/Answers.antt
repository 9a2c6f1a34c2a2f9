use Rattle.std.proofs.Common.{◌≡◌, ◌∙◌, [], false, sym, ap, refl}
use Rattle.http_edge.proofs.Names.{SeenLane, IsPlace, ended, has_stream_ended}
use Rattle.http_edge.proofs.Placing.{lane_is, put_at, apart_put}
use Rattle.http_edge.proofs.Going.{on_ended}
use Rattle.http_edge.proofs.edge.Edge.end.Goals as goal

pub returns-clause-done : goal.returns-clause-done
returns-clause-done g c = λ journey reached.
    let lanes = c.self.inside.lanes.items in
    let now = rw (← c.self.view_is) at reached in
    let place : IsPlace lanes c.args.c c.in-Some.i = rw c.deref.ensures.value at c.in-Some.ensures in
    let same = lane_is lanes c.args.c c.in-Some.i c.index_mut.result.now place c.index_mut.ensures.value in
    let read = lane_is lanes c.args.c c.in-Some.i c.index.result.now place c.index.ensures in
    let seen : c.behind-self.inside.phase ≡ place.lane.phase = ap (λ (l : SeenLane). l.phase) c.behind-self.view_is ∙ ap (λ (l : SeenLane). l.phase) (sym read) in
    let not_ended : has_stream_ended place.lane.phase ≡ false = rw seen at (sym c.has_ended.ensures ∙ c.if-has_ended.false) in
    let new = c.end_lane.ensures ∙ ap (λ (l : SeenLane). record { number = l.number; phase = ended l.phase; rest = []; output = l.output; ends = l.ends }) (sym same) in
    on_ended g.H.HookHost _ _ c.args.c place.lane refl place.here not_ended (put_at lanes c.args.c c.in-Some.i place _ _ new) journey now

pub invariant_of-self : goal.invariant_of-self
invariant_of-self g c =
    let lanes = c.self.inside.lanes.items in
    let place : IsPlace lanes c.args.c c.in-Some.i = rw c.deref.ensures.value at c.in-Some.ensures in
    let same = lane_is lanes c.args.c c.in-Some.i c.index_mut.result.now place c.index_mut.ensures.value in
    let number = ap (λ (l : SeenLane). l.number) c.end_lane.ensures ∙ ap (λ (l : SeenLane). l.number) (sym same) in
    (c.self.invariant.0, c.self.invariant.1, apart_put lanes c.args.c c.in-Some.i place c.end_lane.new.lane number c.self.invariant.2)
