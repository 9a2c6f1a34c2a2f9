use Rattle.std.proofs.Common.{◌≡◌, ◌∙◌, ◌<◌, Some, None, get_or, set, length, rules, sym, arith}
use Rattle.verifier.proofs.Names.{get_or-set_same, IsRoomFor}
use Rattle.verifier.proofs.Waits.{is_left, merged, none_left, put_back}
use Rattle.std.proofs.lemmas.List.{get_or_default}
use Rattle.verifier.proofs.cases.merge.Goals as goal

pub returns-then-is_none-clause-room : goal.returns-then-is_none-clause-room
returns-then-is_none-clause-room c =
    let four : length c.args.places.now ≡ 4 = search rules in
    let inside : c.args.from < length c.args.places.now = let lt = c.requires.from in omega arith in
    let none : c.settle.result ≡ None = none_left c.settle.result c.is_none.result c.is_none.ensures c.if-is_none.true in
    let room : IsRoomFor (set c.args.places.now c.args.from None) c.in-Some.one.value c.settle.new.places None = rw (c.take.ensures.after, c.deref.ensures, none) at c.settle.ensures.room in
    let free : get_or c.settle.new.places c.args.from None ≡ None = (rw c.take.ensures.after at c.settle.ensures.free) c.args.from (get_or-set_same c.args.places.now c.args.from None None inside) in
    merged c.args.places.now c.settle.new.places c.args.from c.in-Some.one c.args.known.now four c.requires.from
    (get_or_default c.args.places.now c.args.from None c.index-places-from.result inside ∙ sym c.in-Some.ensures.value) room free

pub returns-else-is_none-clause-room : goal.returns-else-is_none-clause-room
returns-else-is_none-clause-room c =
    let four : length c.args.places.now ≡ 4 = search rules in
    let inside : c.args.from < length c.args.places.now = let lt = c.requires.from in omega arith in
    let held : get_or c.args.places.now c.args.from None ≡ Some c.in-Some.one = get_or_default c.args.places.now c.args.from None c.index-places-from.result inside ∙ sym c.in-Some.ensures.value in
    let same = (rw c.take.ensures.after at c.settle.ensures.same) (is_left c.settle.result c.is_none.result c.is_none.ensures c.if-is_none.false) in
    rw (same, put_back c.args.places.now c.args.from (Some c.in-Some.one) four c.requires.from held) at c.settle-in-Some.ensures.room
