use Rattle.std.proofs.Common.{arith, ◌≡◌, ◌<◌, inl, inr, refl, sym, Some, ap, subst, ◌∙◌, true, false, slice_get}
use Rattle.event_loop.proofs.Names.{NeedsNoRead, Looking, cases_lt, promises, same_Some, connection_at, IsHeardAt, below_more, keeping}
use Rattle.event_loop.proofs.Doing.{on_still, on_then}
use Rattle.event_loop.proofs.Answering.{served_answered}
use Rattle.event_loop.proofs.Hearing.{heard_more, hearing_read}
use Rattle.event_loop.proofs.Leading.{rested_next, rested_heard}
use Rattle.event_loop.proofs.Resting.{heard_other}
use Rattle.event_loop.proofs.tools.Tools.read_all.Goals as goal

pub loop-k-init : goal.loop-k-init
loop-k-init g c = record {
  due = refl;
  reads = λ first found past hearing rested h. record {
    goes = record { on = on_still (promises g.N.Sockets g.C.Clocks g.J.Journal (keeping g.K.Keeper) g.H.HookHost) first _ h; rested = rested; heard = λ j less. absurd (omega (arith, less)); hearing = hearing };
    unlooked = λ m not. not;
  };
}

pub loop-k-preserved-then-not-is_at : goal.loop-k-preserved-then-not-is_at
loop-k-preserved-then-not-is_at g c = record {
  due = c.loop-k.invariant.due;
  reads = λ first found past hearing rested h.
      let k = c.loop-k.k in
      let before = c.loop-k.invariant.reads first found past hearing rested h in
      let none = subst (λ b. slice_get c.loop-k.service.due k ≡ Some b) c.if-not-is_at.true c.is_at.ensures in
      record {
        goes = heard_more (promises g.N.Sockets g.C.Clocks g.J.Journal (keeping g.K.Keeper) g.H.HookHost) first k _ _ before.goes
            (rested_heard k c.loop-k.service before.goes.on.next (before.goes.rested k (omega (arith, c.loop-k-test.true))) none);
        unlooked = before.unlooked;
      };
}

pub loop-k-preserved-then-is_heard : goal.loop-k-preserved-then-is_heard
loop-k-preserved-then-is_heard g c = record {
  due = c.loop-k.invariant.due;
  reads = λ first found past hearing rested h.
      let k = c.loop-k.k in
      let before = c.loop-k.invariant.reads first found past hearing rested h in
      let was = subst (λ b. slice_get c.loop-k.service.heard k ≡ Some b) c.if-is_heard.true c.is_heard.ensures in
      record {
        goes = heard_more (promises g.N.Sockets g.C.Clocks g.J.Journal (keeping g.K.Keeper) g.H.HookHost) first k _ _ before.goes
            (inr ((before.goes.hearing.heard_are k (omega (arith, c.loop-k-test.true, c.end-k-end.ensures.bound))).read was));
        unlooked = before.unlooked;
      };
}

pub loop-k-preserved-then-not-may_read : goal.loop-k-preserved-then-not-may_read
loop-k-preserved-then-not-may_read g c = record {
  due = c.loop-k.invariant.due;
  reads = λ first found past hearing rested h.
      let p = promises g.N.Sockets g.C.Clocks g.J.Journal (keeping g.K.Keeper) g.H.HookHost in
      let k = c.loop-k.k in
      let before = c.loop-k.invariant.reads first found past hearing rested h in
      let next = before.goes.on.next in
      record {
        goes = heard_more p first k _ _ before.goes (inl (λ place there.
            subst (λ q. NeedsNoRead q (connection_at next.journey.world.connections k)) (same_Some c.place_at-place.result place (sym c.place_at-place.ensures ∙ there))
            (λ readable. c.may_read.ensures.rests c.if-not-may_read.true readable next.journey (served_answered p first _ before.goes.on.served).reached)));
        unlooked = before.unlooked;
      };
}

pub read-requires : goal.read-requires
read-requires g c = record {
  bound = omega (arith, c.loop-k-test.true, c.end-k-end.ensures.bound);
  here = c.place_at-place.ensures;
  readable = c.may_read.ensures.readable c.if-not-may_read.false;
  may = c.may_read.ensures.may c.if-not-may_read.false;
}

pub loop-k-preserved : goal.loop-k-preserved
loop-k-preserved g c = record {
  due = c.read.ensures.due ∙ c.loop-k.invariant.due;
  reads = λ first found past hearing rested h.
      let p = promises g.N.Sockets g.C.Clocks g.J.Journal (keeping g.K.Keeper) g.H.HookHost in
      let k = c.loop-k.k in
      let less : k < 64 = omega (arith, c.loop-k-test.true, c.end-k-end.ensures.bound) in
      let before = c.loop-k.invariant.reads first found past hearing rested h in
      let was = before.goes in
      let unread = (was.hearing.heard_are k less).unread (subst (λ b. slice_get c.loop-k.service.heard k ≡ Some b) c.if-is_heard.false c.is_heard.ensures) in
      let x = c.read.ensures.reads first found was.on.next unread was.on.served (served_answered p first _ was.on.served).reached in
      record {
        goes = record {
          on = on_then p first _ _ _ was.on x.goes.on;
          rested = rested_next k c.loop-k.service was.on.next.journey.world c.read.new.service x.goes.on.next.journey.world x.goes.others (ap (λ l. slice_get l k) x.due ∙ subst (λ b. slice_get c.loop-k.service.due k ≡ Some b) c.if-not-is_at.false c.is_at.ensures) was.rested;
          heard = below_more (λ j. IsHeardAt j c.read.new.service x.goes.on.next) k
              (λ j below. heard_other k j c.loop-k.service was.on.next c.read.new.service x.goes.on.next x.goes.others x.goes.on.done (λ is. absurd (omega (arith, below, is))) (was.heard j below)) (inr x.done);
          hearing = hearing_read p first k _ _ x c.read.ensures.heard was.hearing;
        };
        unlooked = λ m not. x.goes.alone (Looking m) (λ e. absurd (cc)) (before.unlooked m not);
      };
}

pub returns : goal.returns
returns g c = λ first found past hearing rested h.
    let all = c.loop-k.invariant.reads first found past hearing rested h in
    let was = all.goes in
    record {
      goes = record {
        on = was.on;
        rested = was.rested;
        heard = λ j less. elim (cases_lt j c.end-k-end.result) [
          | inl before ↦ was.heard j (omega (arith, before, c.loop-k-test.false))
          | inr from ↦ rested_heard j c.loop-k.service was.on.next (was.rested j less) (ap (λ l. slice_get l j) c.loop-k.invariant.due ∙ c.end-k-end.ensures.none j from less)
        ];
        hearing = was.hearing;
      };
      unlooked = all.unlooked;
    }
