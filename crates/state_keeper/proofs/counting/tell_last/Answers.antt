use Rattle.std.proofs.Common.{◌++◌, take, arith}
use Rattle.state_keeper.proofs.Names.{append-nil, dated_facts, take_all}
use Rattle.state_keeper.proofs.Places.{facts_behind}
use Rattle.state_keeper.proofs.counting.tell_last.Goals as goal

pub loop-dated-init : goal.loop-dated-init
loop-dated-init c = λ events told. rw (append-nil events) told

pub loop-dated-preserved : goal.loop-dated-preserved
loop-dated-preserved c = λ events told.
    let i = c.loop-dated.dated-index in
    let ds = c.args.changes.now in
    rw (facts_behind events i ds c.dated-item.result c.loop-dated-test.true c.dated-item.is)
    (c.note.ensures (events ++ dated_facts (take i ds)) (c.loop-dated.invariant events told))

pub returns : goal.returns
returns c = λ events told.
    let all = take_all c.loop-dated.dated-index c.args.changes.now (omega (arith, c.loop-dated-test.false)) in
    rw all at (c.loop-dated.invariant events told)
