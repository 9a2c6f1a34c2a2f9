use Rattle.std.proofs.Common.{rules, ◌≡◌, ◌<◌, ◌+◌, ℕ, ap, refl, sym, subst, ◌∙◌, inl, inr, length, arith, length-set}
use Rattle.event_loop.proofs.Names.{Place, IsFreeAt, same_Some, slice_get_within, promises, Free, Service, passes_on, shuts, below_more, keeping}
use Rattle.event_loop.specs.Goes.{FreesPlace}
use Rattle.event_loop.proofs.Leading.{closes_reached, passes_reached}
use Rattle.event_loop.proofs.Putting.{set_cases}
use Rattle.event_loop.proofs.tools.Tools.leave_all.Goals as goal

pub loop-k-init : goal.loop-k-init
loop-k-init g c = record { shut = λ first found past done reached. record { next = past; shuts = done; reached = reached }; size = refl; free = λ j less. absurd (omega (arith, less)) }

pub loop-k-preserved-then-not-is_taken : goal.loop-k-preserved-then-not-is_taken
loop-k-preserved-then-not-is_taken g c = record {
  shut = c.loop-k.invariant.shut;
  size = c.loop-k.invariant.size;
  free = below_more (IsFreeAt c.loop-k.service.places) c.loop-k.k c.loop-k.invariant.free
      (λ place here. ap (λ (q : Place). q.stage) (same_Some place c.place_at-place.result (sym here ∙ c.place_at-place.ensures)) ∙ c.is_taken.ensures.free c.if-not-is_taken.true);
}

-- the place is free, and those before it are as they were
freed : (service service' : Service) (k : ℕ) (place : Place) → FreesPlace k place service service' → ((j : ℕ) → j < k → IsFreeAt service.places j) → (j : ℕ) → j < k + 1 → IsFreeAt service'.places j
freed service service' k place rest free =
    subst (λ (s : Service). (j : ℕ) → j < k + 1 → IsFreeAt s.places j) (sym rest)
    (λ j less other here. elim (set_cases service.places k j (record place { stage = Free }) other here) [
      | inl is ↦ ap (λ (q : Place). q.stage) is.1
      | inr is ↦ (let apart = is.0 in free j (omega (arith, less, apart)) other is.1)
    ])

still_many : (service service' : Service) (k : ℕ) (place : Place) → FreesPlace k place service service' → length service'.places ≡ length service.places
still_many service service' k place rest = ap (λ (s : Service). length s.places) rest ∙ length-set service.places k (record place { stage = Free })

pub loop-k-preserved-then-is_handed_on : goal.loop-k-preserved-then-is_handed_on
loop-k-preserved-then-is_handed_on g c = record {
  shut = λ first found past done reached.
      let before = c.loop-k.invariant.shut first found past done reached in
      let away = c.pass.ensures.away found before.next before.reached in
      let yes = c.if-is_handed_on.true in
      record {
        next = away.next;
        shuts = passes_on c.loop-k.k c.place_at-place.result before.shuts c.place_at-place.ensures (c.is_handed_on.ensures.reload yes) (c.is_handed_on.ensures.between yes before.next.journey before.reached) away.passes;
        reached = passes_reached (promises g.N.Sockets g.C.Clocks g.J.Journal (keeping g.K.Keeper) g.H.HookHost) c.loop-k.k c.place_at-place.result _ _ away.passes;
      };
  size = still_many c.loop-k.service c.pass.new.service c.loop-k.k c.place_at-place.result c.pass.ensures.rest ∙ c.loop-k.invariant.size;
  free = freed c.loop-k.service c.pass.new.service c.loop-k.k c.place_at-place.result c.pass.ensures.rest c.loop-k.invariant.free;
}

pub loop-k-preserved : goal.loop-k-preserved
loop-k-preserved g c = record {
  shut = λ first found past done reached.
      let before = c.loop-k.invariant.shut first found past done reached in
      let away = c.leave.ensures.away found before.next before.reached in
      record {
        next = away.next;
        shuts = shuts c.loop-k.k c.place_at-place.result before.shuts c.place_at-place.ensures (c.is_taken.ensures.taken c.if-not-is_taken.false)
            (λ reload. c.is_handed_on.ensures.apart c.if-is_handed_on.false reload before.next.journey before.reached) away.closes;
        reached = closes_reached (promises g.N.Sockets g.C.Clocks g.J.Journal (keeping g.K.Keeper) g.H.HookHost) c.loop-k.k c.place_at-place.result _ _ away.closes;
      };
  size = still_many c.loop-k.service c.leave.new.service c.loop-k.k c.place_at-place.result c.leave.ensures.rest ∙ c.loop-k.invariant.size;
  free = freed c.loop-k.service c.leave.new.service c.loop-k.k c.place_at-place.result c.leave.ensures.rest c.loop-k.invariant.free;
}

pub returns-clause-shut : goal.returns-clause-shut
returns-clause-shut g c = c.loop-k.invariant.shut

pub returns-clause-free : goal.returns-clause-free
returns-clause-free g c = λ j place here.
    let size : length c.args.service.now.places ≡ 64 = search rules in
    let same = c.loop-k.invariant.size in
    let within = slice_get_within c.loop-k.service.places j place here in
    c.loop-k.invariant.free j (omega (arith, size, same, within, c.loop-k-test.false)) place here
