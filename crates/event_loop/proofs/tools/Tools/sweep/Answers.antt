use Rattle.std.proofs.Common.{rules, ◌≡◌, ◌≤◌, ◌<◌, ◌-◌, ◌+◌, ◌∙◌, ℕ, length, ap, refl, sym, subst, inl, inr, arith, length-set}
use Rattle.event_loop.proofs.Names.{Place, IsOccupied, is_silent, same_Some, slice_get_within, promises, Free, Service, IsInTime, below_more, keeping}
use Rattle.event_loop.proofs.Leading.{nowhere, to_then}
use Rattle.event_loop.proofs.Leaving.{leaves_to}
use Rattle.event_loop.proofs.Putting.{set_cases}
use Rattle.event_loop.proofs.tools.Tools.sweep.Goals as goal

pub loop-k-init : goal.loop-k-init
loop-k-init g c = record {
  leads = λ found. nowhere (promises g.N.Sockets g.C.Clocks g.J.Journal (keeping g.K.Keeper) g.H.HookHost) found _ _;
  below = λ j less. absurd (omega (arith, less));
  size = refl;
}

pub loop-k-preserved-then-not-is_taken : goal.loop-k-preserved-then-not-is_taken
loop-k-preserved-then-not-is_taken g c = record {
  leads = c.loop-k.invariant.leads;
  below = below_more (IsInTime c.loop-k.service) c.loop-k.k c.loop-k.invariant.below (λ place here taken.
      let free : place.stage ≡ Free = ap (λ (q : Place). q.stage) (same_Some place c.place_at-place.result (sym here ∙ c.place_at-place.ensures)) ∙ c.is_taken.ensures.free c.if-not-is_taken.true in
      absurd (subst IsOccupied free taken));
  size = c.loop-k.invariant.size;
}

pub loop-k-preserved-then-saturating_sub-service : goal.loop-k-preserved-then-saturating_sub-service
loop-k-preserved-then-saturating_sub-service g c = record {
  leads = c.loop-k.invariant.leads;
  below = below_more (IsInTime c.loop-k.service) c.loop-k.k c.loop-k.invariant.below (λ place here taken.
      let same : c.place_at-place.result ≡ place = same_Some c.place_at-place.result place (sym c.place_at-place.ensures ∙ here) in
      subst (λ (q : Place). c.loop-k.service.times.steady - q.since ≤ c.loop-k.service.limits.idle) same (omega (arith, c.saturating_sub.ensures, c.if-saturating_sub-service.true)));
  size = c.loop-k.invariant.size;
}

pub loop-k-preserved : goal.loop-k-preserved
loop-k-preserved g c =
    let p = promises g.N.Sockets g.C.Clocks g.J.Journal (keeping g.K.Keeper) g.H.HookHost in
    let place = c.place_at-place.result in
    let long : c.loop-k.service.limits.idle < c.loop-k.service.times.steady - place.since = omega (arith, c.saturating_sub.ensures, c.if-saturating_sub-service.false) in
    record {
      leads = λ found.
          to_then p found found found c.args.service.now c.loop-k.service c.leave.new.service c.args.self.now c.loop-k.self c.leave.new.self (c.loop-k.invariant.leads found)
          (leaves_to p c.loop-k.k place c.loop-k.service c.loop-k.self c.leave.new.service c.leave.new.self c.place_at-place.ensures (c.is_taken.ensures.taken c.if-not-is_taken.false) (λ found past reached. is_silent long) c.leave.ensures.away
          (ap (λ (s : Service). s.places) c.leave.ensures.rest) (ap (λ (s : Service). s.due) c.leave.ensures.rest) found);
      below = subst (λ (s : Service). (j : ℕ) → j < c.loop-k.k + 1 → IsInTime s j) (sym c.leave.ensures.rest)
          (λ j less other here taken. elim (set_cases c.loop-k.service.places c.loop-k.k j (record place { stage = Free }) other here) [
            | inl is ↦ absurd (subst (λ (q : Place). IsOccupied q.stage) is.1 taken)
            | inr is ↦ (let differs = is.0 in c.loop-k.invariant.below j (omega (arith, less, differs)) other is.1 taken)
          ]);
      size = ap (λ (s : Service). length s.places) c.leave.ensures.rest ∙ length-set c.loop-k.service.places c.loop-k.k (record place { stage = Free }) ∙ c.loop-k.invariant.size;
    }

pub returns-clause-leads : goal.returns-clause-leads
returns-clause-leads g c = c.loop-k.invariant.leads

pub returns-clause-within : goal.returns-clause-within
returns-clause-within g c = λ was j place here taken.
    let size : length c.args.service.now.places ≡ 64 = search rules in
    let same = c.loop-k.invariant.size in
    let within = slice_get_within c.loop-k.service.places j place here in
    c.loop-k.invariant.below j (omega (arith, size, same, within, c.loop-k-test.false)) place here taken

pub returns-then-is_same_second-clause-leads : goal.returns-then-is_same_second-clause-leads
returns-then-is_same_second-clause-leads g c = λ found. nowhere (promises g.N.Sockets g.C.Clocks g.J.Journal (keeping g.K.Keeper) g.H.HookHost) found _ _

pub returns-then-is_same_second-clause-within : goal.returns-then-is_same_second-clause-within
returns-then-is_same_second-clause-within g c = λ was. was c.if-is_same_second.true
