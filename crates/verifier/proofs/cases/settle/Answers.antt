use Rattle.std.proofs.Common.{◌≡◌, ◌∙◌, ◌<◌, None, length, rules, sym, arith}
use Rattle.verifier.proofs.Waits.{joined_in}
use Rattle.std.proofs.lemmas.List.{get_or_default}
use Rattle.verifier.proofs.cases.settle.Goals as goal

pub returns-in-Some-clause-room : goal.returns-in-Some-clause-room
returns-in-Some-clause-room c =
    let four : length c.args.places.now ≡ 4 = search rules in
    let inside : c.args.place < length c.args.places.now = let lt = c.requires in omega arith in
    joined_in c.args.places.now c.args.place c.take.new.self c.in-Some.waiting _ c.args.known.now four c.requires
    (get_or_default c.args.places.now c.args.place None c.index-places-place.result inside ∙ sym c.in-Some.ensures.value) (rw c.deref_mut.ensures.value at c.join.ensures)
