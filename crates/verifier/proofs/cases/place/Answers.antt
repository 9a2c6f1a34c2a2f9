use Rattle.std.proofs.Common.{refl}
use Rattle.verifier.proofs.Counted.{one_more_added}
use Rattle.verifier.proofs.Waits.{cases_of, comes_to_place, same_joined}
use Rattle.verifier.proofs.cases.place.Goals as goal

pub returns-in-Some-clause-added : goal.returns-in-Some-clause-added
returns-in-Some-clause-added c =
    comes_to_place c.args.places.now c.room_for.new.places c.in-Some.place c.args.known c.args.known.value refl c.in-Some.ensures.four c.in-Some.ensures.inside c.in-Some.ensures.room

pub returns-in-Some-clause-counted : goal.returns-in-Some-clause-counted
returns-in-Some-clause-counted c =
    one_more_added (cases_of c.args.places.now) _ c.args.known.value (comes_to_place c.args.places.now c.room_for.new.places c.in-Some.place c.args.known c.args.known.value refl c.in-Some.ensures.four c.in-Some.ensures.inside c.in-Some.ensures.room)

pub returns-in-None-clause-counted : goal.returns-in-None-clause-counted
returns-in-None-clause-counted c = same_joined (cases_of c.args.places.now) (cases_of c.room_for.new.places) c.deref.result.now c.in-None.ensures.room
