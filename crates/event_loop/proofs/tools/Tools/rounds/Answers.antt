use Rattle.std.proofs.Common.{[], arith}
use Rattle.event_loop.proofs.Names.{running, state_of, no_more, to_reload, promises, keeping}
use Rattle.event_loop.proofs.Answering.{served_answered}
use Rattle.event_loop.proofs.tools.Tools.rounds.Goals as goal

pub loop-nth-init : goal.loop-nth-init
loop-nth-init g c = λ first past h ready unshortened. record { next = past; served = h; ready = ready; unshortened = unshortened; waits_are = omega arith }

pub returns-then-may_end : goal.returns-then-may_end
returns-then-may_end g c = λ first past h ready unshortened.
    let all = c.loop-nth.invariant first past h ready unshortened in
    let s = state_of (running c.loop-nth.service c.loop-nth.self) [] all.next in
    let reached = (served_answered (promises g.N.Sockets g.C.Clocks g.J.Journal (keeping g.K.Keeper) g.H.HookHost) first s all.served).reached in
    record { last = s; served = all.served; found = []; next = all.next; fails = to_reload (c.may_end.ensures.ends c.if-may_end.true all.next.journey reached) }

pub returns-in-Err : goal.returns-in-Err
returns-in-Err g c = λ first past h ready unshortened.
    let all = c.loop-nth.invariant first past h ready unshortened in
    c.in-Err.ensures.wrong first all.next all.served all.ready all.unshortened

pub loop-nth-preserved : goal.loop-nth-preserved
loop-nth-preserved g c = λ first past h ready unshortened.
    let all = c.loop-nth.invariant first past h ready unshortened in
    let one = c.in_default.ensures.goes first all.next all.served all.ready all.unshortened in
    record { next = one.next; served = one.served; ready = one.ready; unshortened = one.unshortened; waits_are = omega (arith, all.waits_are, one.waits_are) }

pub returns : goal.returns
returns g c = λ first past h ready unshortened.
    let all = c.loop-nth.invariant first past h ready unshortened in
    record { last = state_of (running c.loop-nth.service c.loop-nth.self) [] all.next; served = all.served; found = []; next = all.next; fails = no_more (omega (arith, all.waits_are, c.loop-nth-test.false)) }

pub round-requires-clause-serves_on : goal.round-requires-clause-serves_on
round-requires-clause-serves_on g c = c.may_end.ensures.serves_on c.if-may_end.false
