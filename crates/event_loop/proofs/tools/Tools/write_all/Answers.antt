use Rattle.std.proofs.Common.{arith, ◌≡◌, ◌<◌, ◌⊎◌, inl, inr, ℕ, true, Some, ap, subst, sym, ◌∙◌, slice_get}
use Rattle.event_loop.proofs.Names.{Service, cases_lt, promises, IsSettledAt, below_more, keeping}
use Rattle.event_loop.proofs.Doing.{on_still, on_then}
use Rattle.event_loop.specs.Goes.{IsDueNowhereFrom}
use Rattle.event_loop.proofs.Leading.{rested_settled, turn_then, writing_other}
use Rattle.event_loop.proofs.Resting.{heard_other, rested_other, settled_other}
use Rattle.event_loop.proofs.tools.Tools.write_all.Goals as goal

-- where something may be due at the place, it may be written
at_due : (k : ℕ) (service : Service) (W : Type 0) → IsDueNowhereFrom k service ⊎ W → k < 64 → slice_get service.due k ≡ Some true → W
at_due k service W (inl nowhere) less due = absurd (let not = sym (nowhere k (omega arith) less) ∙ due in cc)
at_due k service W (inr writable) less due = writable

pub loop-k-init : goal.loop-k-init
loop-k-init g c = record {
  due = c.end-k-end.ensures.none;
  writes = λ first found past rested heard unwritten kept h. record {
    on = on_still (promises g.N.Sockets g.C.Clocks g.J.Journal (keeping g.K.Keeper) g.H.HookHost) first _ h;
    below = λ j less. absurd (omega (arith, less));
    rested = λ j from less. rested j less;
    heard = λ j from less. heard j less;
    unwritten = λ j from. unwritten j;
    kept = elim kept [ inl nowhere ↦ inl (λ j from less. nowhere j less) | inr writable ↦ inr writable ];
  };
}

pub loop-k-preserved-then-not-is_at : goal.loop-k-preserved-then-not-is_at
loop-k-preserved-then-not-is_at g c = record {
  due = c.loop-k.invariant.due;
  writes = λ first found past rested heard unwritten kept h.
      let k = c.loop-k.k in
      let before = c.loop-k.invariant.writes first found past rested heard unwritten kept h in
      let none = subst (λ b. slice_get c.loop-k.service.due k ≡ Some b) c.if-not-is_at.true c.is_at.ensures in
      record {
        on = before.on;
        below = below_more (λ j. IsSettledAt j c.loop-k.service before.on.next) k before.below (rested_settled k c.loop-k.service before.on.next (before.rested k (omega arith) (omega (arith, c.loop-k-test.true))) none);
        rested = λ j from less. before.rested j (omega (arith, from)) less;
        heard = λ j from less. before.heard j (omega (arith, from)) less;
        unwritten = λ j from. before.unwritten j (omega (arith, from));
        kept = elim before.kept [ inl nowhere ↦ inl (λ j from less. nowhere j (omega (arith, from)) less) | inr writable ↦ inr writable ];
      };
}

pub loop-k-preserved : goal.loop-k-preserved
loop-k-preserved g c = record {
  due = λ j from less. c.settle.ensures.due j (λ is. absurd (omega (arith, from, is, c.loop-k-test.true))) ∙ ap (λ l. slice_get l j) c.write.ensures.due ∙ c.loop-k.invariant.due j from less;
  writes = λ first found past rested heard unwritten kept h.
      let k = c.loop-k.k in
      let before = c.loop-k.invariant.writes first found past rested heard unwritten kept h in
      let due = subst (λ b. slice_get c.loop-k.service.due k ≡ Some b) c.if-not-is_at.false c.is_at.ensures in
      let writable = at_due k c.loop-k.service _ before.kept (omega (arith, c.loop-k-test.true, c.end-k-end.ensures.bound)) due in
      let turn = turn_then (promises g.N.Sockets g.C.Clocks g.J.Journal (keeping g.K.Keeper) g.H.HookHost) k c.loop-k.service c.write.new.service c.settle.new.service c.loop-k.self c.write.new.self c.settle.new.self c.write.ensures.acts c.settle.ensures.tidies first found before.on.next (before.heard k (omega arith) (omega (arith, c.loop-k-test.true))) (before.unwritten k (omega arith)) writable before.on.served in
      record {
        on = on_then (promises g.N.Sockets g.C.Clocks g.J.Journal (keeping g.K.Keeper) g.H.HookHost) first _ _ _ before.on turn.goes.on;
        below = below_more (λ j. IsSettledAt j c.settle.new.service turn.goes.on.next) k
            (λ j less. settled_other k j c.loop-k.service before.on.next c.settle.new.service turn.goes.on.next turn.goes.others turn.goes.on.done (λ is. absurd (omega (arith, less, is))) (before.below j less)) turn.settled;
        rested = λ j from less. rested_other k j c.loop-k.service before.on.next.journey.world c.settle.new.service turn.goes.on.next.journey.world turn.goes.others (λ is. absurd (omega (arith, from, is))) (before.rested j (omega (arith, from)) less);
        heard = λ j from less. heard_other k j c.loop-k.service before.on.next c.settle.new.service turn.goes.on.next turn.goes.others turn.goes.on.done (λ is. absurd (omega (arith, from, is))) (before.heard j (omega (arith, from)) less);
        unwritten = λ j from. turn.goes.alone _ (λ e. absurd (writing_other j k from e)) (before.unwritten j (omega (arith, from)));
        kept = inr (turn.goes.ready writable);
      };
}

pub returns : goal.returns
returns g c = λ first found past rested heard unwritten kept h.
    let all = c.loop-k.invariant.writes first found past rested heard unwritten kept h in
    record {
      on = all.on;
      below = λ j less. elim (cases_lt j c.end-k-end.result) [
        | inl before ↦ all.below j (omega (arith, before, c.loop-k-test.false))
        | inr from ↦ rested_settled j c.loop-k.service all.on.next (all.rested j (omega (arith, from, c.loop-k-test.false)) less) (c.loop-k.invariant.due j from less)
      ];
      rested = λ j from less. absurd (omega (arith, from, less));
      heard = λ j from less. absurd (omega (arith, from, less));
      unwritten = λ j from. all.unwritten j (omega (arith, from, c.end-k-end.ensures.bound));
      kept = elim all.kept [ inl nowhere ↦ inl (λ j from less. absurd (omega (arith, from, less))) | inr writable ↦ inr writable ];
    }
