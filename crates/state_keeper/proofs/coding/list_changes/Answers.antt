use Rattle.std.proofs.Common.{◌++◌, take, arith}
use Rattle.state_keeper.proofs.Names.{append-nil, dated_facts, take_all}
use Rattle.state_keeper.proofs.Places.{facts_behind}
use Rattle.state_keeper.proofs.coding.list_changes.Goals as goal

pub loop-dated-init : goal.loop-dated-init
loop-dated-init c = λ history events m listed. rw (append-nil events) listed

pub loop-dated-preserved : goal.loop-dated-preserved
loop-dated-preserved c = λ history events m listed.
    let i = c.loop-dated.dated-index in
    let ds = c.args.changes.now in
    rw (facts_behind events i ds c.dated-item.result c.loop-dated-test.true c.dated-item.is)
    (c.in_ok-list.ensures history (events ++ dated_facts (take i ds)) m (c.loop-dated.invariant history events m listed))

pub returns : goal.returns
returns c = λ history events m listed.
    let all = take_all c.loop-dated.dated-index c.args.changes.now (omega (arith, c.loop-dated-test.false)) in
    rw all at (c.loop-dated.invariant history events m listed)
