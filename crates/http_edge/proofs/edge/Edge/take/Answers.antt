use Rattle.std.proofs.Common.{◌≡◌, ◌≤◌, ◌∙◌, None, drop, length, refl, sym, ap, arith}
use Rattle.http_edge.proofs.Names.{drop-nil, ends_from, SeenLane, lane_at, output_in, IsPlace}
use Rattle.http_edge.proofs.Placing.{lane_is, put_at, output_put, apart_put}
use Rattle.http_edge.proofs.Going.{on_taken, on_taken_nothing}
use Rattle.http_edge.proofs.edge.Edge.take.Goals as goal

pub returns-in-Some : goal.returns-in-Some
returns-in-Some g c =
    let lanes = c.self.inside.lanes.items in
    let place : IsPlace lanes c.args.c c.in-Some.i = rw c.deref.ensures.value at c.in-Some.ensures in
    let whole : c.args.n ≤ length (output_in (lane_at lanes c.args.c)) = rw (← c.self.view_is) at c.requires in
    let fits : c.args.n ≤ length place.lane.output = rw place.here at whole in
    let same = lane_is lanes c.args.c c.in-Some.i c.index_mut.result.now place c.index_mut.ensures.value in
    let new = c.take_output.ensures ∙ ap (λ (l : SeenLane). record { number = l.number; phase = l.phase; rest = l.rest; output = drop c.args.n l.output; ends = ends_from c.args.n l.ends }) (sym same) in
    let put = put_at lanes c.args.c c.in-Some.i place _ _ new in
    record {
      taken = λ journey reached. on_taken g.H.HookHost _ _ c.args.c c.args.n place.lane refl place.here fits put journey (rw (← c.self.view_is) at reached);
      left = rw (← c.self.view_is) (ap (λ l. output_in (lane_at l c.args.c)) put ∙ output_put lanes c.args.c c.args.n place.lane place.here);
    }

pub returns-in_default : goal.returns-in_default
returns-in_default g c =
    let lanes = c.self.inside.lanes.items in
    let none : lane_at lanes c.args.c ≡ None = rw c.deref.ensures.value at c.in_default.ensures in
    let whole : c.args.n ≤ length (output_in (lane_at lanes c.args.c)) = rw (← c.self.view_is) at c.requires in
    let fits : c.args.n ≤ 0 = rw none at whole in
    let left : output_in (lane_at lanes c.args.c) ≡ drop c.args.n (output_in (lane_at lanes c.args.c)) = rw none (sym (drop-nil c.args.n)) in
    rw (← c.self.view_is) (record {
      taken = λ journey reached. on_taken_nothing g.H.HookHost _ _ c.args.c c.args.n refl none (omega (arith, fits)) refl journey reached;
      left = left;
    })

pub invariant_of-self : goal.invariant_of-self
invariant_of-self g c =
    let lanes = c.self.inside.lanes.items in
    let place : IsPlace lanes c.args.c c.in-Some.i = rw c.deref.ensures.value at c.in-Some.ensures in
    let same = lane_is lanes c.args.c c.in-Some.i c.index_mut.result.now place c.index_mut.ensures.value in
    let number = ap (λ (l : SeenLane). l.number) c.take_output.ensures ∙ ap (λ (l : SeenLane). l.number) (sym same) in
    (c.self.invariant.0, c.self.invariant.1, apart_put lanes c.args.c c.in-Some.i place c.take_output.new.lane number c.self.invariant.2)
