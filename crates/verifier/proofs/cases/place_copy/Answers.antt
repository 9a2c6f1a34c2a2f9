use Rattle.verifier.proofs.Counted.{one_more_added}
use Rattle.verifier.proofs.Waits.{cases_of, comes_to_place, same_joined}
use Rattle.verifier.proofs.cases.place_copy.Goals as goal

pub returns-in_ok-new-in-Some-clause-added : goal.returns-in_ok-new-in-Some-clause-added
returns-in_ok-new-in-Some-clause-added c ok =
    comes_to_place c.args.places.now c.room_for.new.places c.in-Some.place c.in_ok-new-in-Some.field-0 c.args.known.now c.in_ok-new-in-Some.ensures.ok c.in-Some.ensures.four c.in-Some.ensures.inside c.in-Some.ensures.room

pub returns-in_ok-new-in-Some-clause-counted : goal.returns-in_ok-new-in-Some-clause-counted
returns-in_ok-new-in-Some-clause-counted c =
    one_more_added (cases_of c.args.places.now) _ c.args.known.now (comes_to_place c.args.places.now c.room_for.new.places c.in-Some.place c.in_ok-new-in-Some.field-0 c.args.known.now c.in_ok-new-in-Some.ensures.ok c.in-Some.ensures.four c.in-Some.ensures.inside c.in-Some.ensures.room)

pub returns-in-None-clause-counted : goal.returns-in-None-clause-counted
returns-in-None-clause-counted c = same_joined (cases_of c.args.places.now) (cases_of c.room_for.new.places) c.args.known.now c.in-None.ensures.room
