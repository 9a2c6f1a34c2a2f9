use Rattle.std.proofs.Common.{rules, ◌≡◌, ◌∙◌, Some, refl, sym, ap, arith}
use Rattle.http_edge.proofs.Names.{SeenLane, IsPlace, piece_of, MayHear, Open, Closing}
use Rattle.http_edge.proofs.Placing.{lane_is, put_at, apart_put}
use Rattle.http_edge.proofs.RefusingWorlds.{refused_is}
use Rattle.http_edge.proofs.Going.{on_passed, on_heard}
use Rattle.http_edge.proofs.edge.Edge.hear_piece.Goals as goal

pub returns-then-is_closing-clause-given : goal.returns-then-is_closing-clause-given
returns-then-is_closing-clause-given g c =
    let lanes = c.self.inside.lanes.items in
    let place : IsPlace lanes c.args.c c.in-Some.i = rw c.deref.ensures.value at c.in-Some.ensures in
    let read = lane_is lanes c.args.c c.in-Some.i c.index.result.now place c.index.ensures in
    let read-2 = lane_is lanes c.args.c c.in-Some.i c.index-2.result.now place c.index-2.ensures in
    let seen = ap (λ (l : SeenLane). l.phase) (c.behind-self.view_is ∙ sym read) in
    let seen-2 = ap (λ (l : SeenLane). l.phase) (c.behind-self-2.view_is ∙ sym read-2) in
    let closing : place.lane.phase ≡ Closing = grind (arith, seen, seen-2, c.has_ended.ensures, c.if-has_ended.false, c.is_closing.ensures, c.if-is_closing.true) in
    rw (← c.self.view_is)
    (on_passed g.H.HookHost g.S.DrawSource _ _ (piece_of c.args.c c.args.piece.now c.args.moment) place.lane c.args.source.now _ c.args.tellings.now refl refl place.here closing (omega (arith, c.if-piece-gt-PIECE_LIMIT.false)) refl)

pub returns-clause-given : goal.returns-clause-given
returns-clause-given g c =
    let lanes = c.self.inside.lanes.items in
    let place : IsPlace lanes c.args.c c.in-Some.i = rw c.deref.ensures.value at c.in-Some.ensures in
    let r = c.index_mut.result.now in
    let same = lane_is lanes c.args.c c.in-Some.i r place c.index_mut.ensures.value in
    let read = lane_is lanes c.args.c c.in-Some.i c.index.result.now place c.index.ensures in
    let read-2 = lane_is lanes c.args.c c.in-Some.i c.index-2.result.now place c.index-2.ensures in
    let seen = ap (λ (l : SeenLane). l.phase) (c.behind-self.view_is ∙ sym read ∙ same) in
    let seen-2 = ap (λ (l : SeenLane). l.phase) (c.behind-self-2.view_is ∙ sym read-2 ∙ same) in
    let opened : r.phase ≡ Open = grind (arith, seen, seen-2, c.has_ended.ensures, c.if-has_ended.false, c.is_closing.ensures, c.if-is_closing.false) in
    rw (← c.self.view_is)
    (on_heard g.H.HookHost g.S.DrawSource _ _ (piece_of c.args.c c.args.piece.now c.args.moment) r c.hear.new.lane c.args.source.now _ c.args.tellings.now c.hear.new.tellings (place.here ∙ ap Some same) opened (omega (arith, c.if-piece-gt-PIECE_LIMIT.false))
    c.in_default-hear.ensures.heard (put_at lanes c.args.c c.in-Some.i place c.hear.new.lane c.hear.new.lane refl))

pub returns-in-Err-clause-refused : goal.returns-in-Err-clause-refused
returns-in-Err-clause-refused g c =
    let lanes = c.self.inside.lanes.items in
    let place : IsPlace lanes c.args.c c.in-Some.i = rw c.deref.ensures.value at c.in-Some.ensures in
    let r = c.index_mut.result.now in
    let same = lane_is lanes c.args.c c.in-Some.i r place c.index_mut.ensures.value in
    let read = lane_is lanes c.args.c c.in-Some.i c.index.result.now place c.index.ensures in
    let read-2 = lane_is lanes c.args.c c.in-Some.i c.index-2.result.now place c.index-2.ensures in
    let seen = ap (λ (l : SeenLane). l.phase) (c.behind-self.view_is ∙ sym read ∙ same) in
    let seen-2 = ap (λ (l : SeenLane). l.phase) (c.behind-self-2.view_is ∙ sym read-2 ∙ same) in
    let opened : r.phase ≡ Open = grind (arith, seen, seen-2, c.has_ended.ensures, c.if-has_ended.false, c.is_closing.ensures, c.if-is_closing.false) in
    let may : MayHear lanes c.args.c c.args.piece.now = record { lane = r; here = place.here ∙ ap Some same; is_open = opened; short = omega (arith, c.if-piece-gt-PIECE_LIMIT.false) } in
    rw (← c.self.view_is) (refused_is c.in-Err.fault lanes c.args.c c.args.piece.now (g.S.DrawSource.supply c.args.source.now) may c.in-Err.ensures.refused)

pub invariant_of-self-2 : goal.invariant_of-self-2
invariant_of-self-2 g c =
    let lanes = c.self.inside.lanes.items in
    let place : IsPlace lanes c.args.c c.in-Some.i = rw c.deref.ensures.value at c.in-Some.ensures in
    let same = lane_is lanes c.args.c c.in-Some.i c.index_mut.result.now place c.index_mut.ensures.value in
    let number = c.in_default-hear.ensures.heard.number_is ∙ ap (λ (l : SeenLane). l.number) (sym same) in
    (search rules, search rules, apart_put lanes c.args.c c.in-Some.i place c.hear.new.lane number c.self.invariant.2)
