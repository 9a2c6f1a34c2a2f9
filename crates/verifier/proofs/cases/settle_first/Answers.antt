use Rattle.verifier.proofs.Counted.{never_free, settled_counted}
use Rattle.verifier.proofs.Waits.{is_left}
use Rattle.verifier.proofs.cases.settle_first.Goals as goal

pub returns-in-Some-clause-counted : goal.returns-in-Some-clause-counted
returns-in-Some-clause-counted c = settled_counted c.args.places.now c.settle.new.places c.args.known.now c.settle.result c.settle.ensures.room c.settle.ensures.same

pub returns-in-Some-clause-none : goal.returns-in-Some-clause-none
returns-in-Some-clause-none c told =
    let first = c.in-Some.ensures.first in
    absurd (never_free c.args.places.now c.settle.new.places c.args.known.now c.in-Some.place c.settle.result first.1 c.settle.ensures.room c.settle.ensures.same c.settle.ensures.own (is_left c.settle.result c.is_none.result c.is_none.ensures told))
