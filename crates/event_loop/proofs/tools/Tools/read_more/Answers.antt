use Rattle.std.proofs.Common.{rules, arith, ◌≤◌, length, take}
use Rattle.event_loop.proofs.Names.{promises, keeping}
use Rattle.event_loop.proofs.Hearing.{look_fails, look_then, may_look}
use Rattle.event_loop.proofs.tools.Tools.read_more.Goals as goal

pub loop-nth-init : goal.loop-nth-init
loop-nth-init g c = record {
  further = λ first start since behind none read. record { reading = read.goes; unlooked = λ m from. read.unlooked m (none m) };
  room = c.requires.room;
  most = omega arith;
}

pub loop-nth-preserved : goal.loop-nth-preserved
loop-nth-preserved g c =
    let room : 65 ≤ length c.wait.new.found = search (rules, arith, c.loop-nth.invariant.room) in
    record {
      further = λ first start since behind none read.
          let far = c.loop-nth.invariant.further first start since behind none read in
          look_then (promises g.N.Sockets g.C.Clocks g.J.Journal (keeping g.K.Keeper) g.H.HookHost) first start since c.loop-nth.nth (length c.wait.new.found) (take c.in-Some-wait.count c.wait.new.found) c.loop-nth.service c.hear_all.new.service c.read_all.new.service
          c.loop-nth.self c.read_all.new.self c.wait.new.self far
          (may_look (promises g.N.Sockets g.C.Clocks g.J.Journal (keeping g.K.Keeper) g.H.HookHost) first start since c.loop-nth.nth (length c.wait.new.found) c.loop-nth.service c.loop-nth.self far (λ journey reached. (c.in-Some.ensures.some journey reached).0) behind
          (omega (arith, c.loop-nth-test.true)) room)
          c.in-Some-wait.ensures.done c.hear_all.ensures.hears c.hear_all.ensures.heard c.hear_all.ensures.within c.read_all.ensures;
      room = room;
      most = omega (arith, c.loop-nth-test.true);
    }

-- nothing is unkept
pub returns-in_default : goal.returns-in_default
returns-in_default g c = λ first start since behind none read.
    let far = c.loop-nth.invariant.further first start since behind none read in
    record { reading = far.reading; unlooked = λ m from. far.unlooked m (omega (arith, from, c.loop-nth.invariant.most)) }

-- it cannot be looked
pub returns-in_default-wait : goal.returns-in_default-wait
returns-in_default-wait g c = λ first start since behind none read.
    let room : 65 ≤ length c.wait.new.found = search (rules, arith, c.loop-nth.invariant.room) in
    let far = c.loop-nth.invariant.further first start since behind none read in
    let next =
    look_fails (promises g.N.Sockets g.C.Clocks g.J.Journal (keeping g.K.Keeper) g.H.HookHost) first start since c.loop-nth.nth (length c.wait.new.found) c.loop-nth.service c.loop-nth.self c.wait.new.self far
    (may_look (promises g.N.Sockets g.C.Clocks g.J.Journal (keeping g.K.Keeper) g.H.HookHost) first start since c.loop-nth.nth (length c.wait.new.found) c.loop-nth.service c.loop-nth.self far (λ journey reached. (c.in-Some.ensures.some journey reached).0) behind
    (omega (arith, c.loop-nth-test.true)) room)
    c.in_default-wait.ensures.done in
    record { reading = next.reading; unlooked = λ m from. next.unlooked m (omega (arith, from, c.loop-nth-test.true)) }

-- nothing came
pub returns-then-count-eq0 : goal.returns-then-count-eq0
returns-then-count-eq0 g c = λ first start since behind none read.
    let room : 65 ≤ length c.wait.new.found = search (rules, arith, c.loop-nth.invariant.room) in
    let far = c.loop-nth.invariant.further first start since behind none read in
    let next =
    look_then (promises g.N.Sockets g.C.Clocks g.J.Journal (keeping g.K.Keeper) g.H.HookHost) first start since c.loop-nth.nth (length c.wait.new.found) (take c.in-Some-wait.count c.wait.new.found) c.loop-nth.service c.hear_all.new.service c.read_all.new.service
    c.loop-nth.self c.read_all.new.self c.wait.new.self far
    (may_look (promises g.N.Sockets g.C.Clocks g.J.Journal (keeping g.K.Keeper) g.H.HookHost) first start since c.loop-nth.nth (length c.wait.new.found) c.loop-nth.service c.loop-nth.self far (λ journey reached. (c.in-Some.ensures.some journey reached).0) behind
    (omega (arith, c.loop-nth-test.true)) room)
    c.in-Some-wait.ensures.done c.hear_all.ensures.hears c.hear_all.ensures.heard c.hear_all.ensures.within c.read_all.ensures in
    record { reading = next.reading; unlooked = λ m from. next.unlooked m (omega (arith, from, c.loop-nth-test.true)) }

pub returns : goal.returns
returns g c = λ first start since behind none read.
    let far = c.loop-nth.invariant.further first start since behind none read in
    record { reading = far.reading; unlooked = λ m from. far.unlooked m (omega (arith, from, c.loop-nth.invariant.most)) }
