use Rattle.std.proofs.Common.{◌≡◌, ◌<◌, ℕ, [], ap, refl, sym, subst, ◌∙◌, inl, inr, arith, length, slice_set}
use Rattle.event_loop.proofs.Names.{promises, keeping, goes, hears_out, leaves_rest, AreLeftOfReply, Free, IsCalm, Leaving, Place, Service, Told, World, connection_at, freed_queue, untaken}
use Rattle.event_loop.proofs.Answering.{served_answered}
use Rattle.event_loop.proofs.Doing.{none_more}
use Rattle.event_loop.proofs.Leaving.{leaves_to}
use Rattle.event_loop.proofs.Putting.{put_still, put_within, set_cases, set_here}
use Rattle.event_loop.proofs.Resting.{all_settled, put_others}
use Rattle.event_loop.proofs.Rooming.{leaves_settled, owed_eldest}
use Rattle.event_loop.proofs.tools.Tools.hear_out.Goals as goal

pub returns-then-left-eq0-clause-leads : goal.returns-then-left-eq0-clause-leads
returns-then-left-eq0-clause-leads g c = λ found first past served settled.
    let p = promises g.N.Sockets g.C.Clocks g.J.Journal (keeping g.K.Keeper) g.H.HookHost in
    let eldest = c.in-Some.ensures.eldest in
    leaves_to p c.in-Some.k c.in-Some.place c.args.service.now c.args.self.now c.leave.new.service c.leave.new.self eldest.here
    eldest.taken
    (λ now later reached.
    let left = rw c.new.ensures at (c.left_of_reply-left.ensures.left later.journey reached) in
    let none : c.left_of_reply-left.result ≡ 0 = omega (arith, c.if-left-eq0.true) in
    leaves_rest c.in-Waits.is eldest.late (owed_eldest g.H.HookHost c.args.self.now.edge c.args.service.now (c.in-Some.k, c.in-Some.place) eldest later.journey reached) (c.is_one_leaving.ensures.none c.if-is_one_leaving.false)
    (subst (λ n. AreLeftOfReply (connection_at later.journey.world.connections c.in-Some.k) n) none left))
    c.leave.ensures.away (ap (λ (s : Service). s.places) c.leave.ensures.rest) (ap (λ (s : Service). s.due) c.leave.ensures.rest) found first past served settled

pub returns-then-left-eq0-clause-calm : goal.returns-then-left-eq0-clause-calm
returns-then-left-eq0-clause-calm g c = λ calm.
    let freed : freed_queue c.args.service.now.queue ≡ Told = ap freed_queue c.in-Waits.is in
    subst IsCalm (sym c.leave.ensures.rest) (record {
      idle = put_within _ c.args.service.now.times c.args.service.now.places c.in-Some.k (record c.in-Some.place { stage = Free }) (λ taken. absurd taken) calm.idle;
      crowded = λ waits. (let not = sym freed ∙ waits in absurd (cc));
      tried = λ since barred. (let not = sym freed ∙ barred in absurd (cc));
    })

pub returns-then-left-eq0-clause-room : goal.returns-then-left-eq0-clause-room
returns-then-left-eq0-clause-room g c = λ journey reached waits.
    let freed : freed_queue c.args.service.now.queue ≡ Told = ap freed_queue c.in-Waits.is in
    let queue = ap (λ (s : Service). s.queue) c.leave.ensures.rest in
    let not = sym freed ∙ (sym queue ∙ waits) in
    absurd (cc)

pub returns-clause-leads : goal.returns-clause-leads
returns-clause-leads g c = λ found first past served settled.
    let p = promises g.N.Sockets g.C.Clocks g.J.Journal (keeping g.K.Keeper) g.H.HookHost in
    let k = c.in-Some.k in
    let place = c.in-Some.place in
    let found_at = c.in-Some.ensures.eldest in
    let now = c.args.service.now in
    let reached = (served_answered p first _ served).reached in
    let eldest = owed_eldest g.H.HookHost c.args.self.now.edge now (k, place) found_at past.journey reached in
    let left = c.left_of_reply-left.result in
    let is_left = rw c.new.ensures at (c.left_of_reply-left.ensures.left past.journey reached) in
    let some : 0 < left = omega (arith, c.if-left-eq0.false) in
    let place' : Place = record place { stage = Leaving left; came = now.times.steady } in
    let service : Service = record now { places = slice_set now.places k place' } in
    record {
      next = past;
      served = goes served (hears_out k place left found_at.here c.in-Waits.is found_at.late eldest (c.is_one_leaving.ensures.none c.if-is_one_leaving.false) is_left some);
      settled =
          all_settled k now past service past (put_others k now service place' past.journey.world past.journey.world refl (λ j other. refl) (λ j other. refl)) (none_more past.calls) settled
          (leaves_settled k left now.times.steady now place past found_at.here eldest.holds some (settled k found_at.within));
      done = none_more past.calls;
    }

pub returns-clause-calm : goal.returns-clause-calm
returns-clause-calm g c = λ calm.
    let now = c.args.service.now in
    let found_at = c.in-Some.ensures.eldest in
    let place' : Place = record c.in-Some.place { stage = Leaving c.left_of_reply-left.result; came = now.times.steady } in
    record {
      idle = put_still _ now.times now.places c.in-Some.k c.in-Some.place place' found_at.here (λ _. found_at.taken) refl calm.idle;
      crowded = λ waits. put_still _ now.times now.places c.in-Some.k c.in-Some.place place' found_at.here (λ _. found_at.taken) refl (calm.crowded waits);
      tried = calm.tried;
    }

pub returns-in_default-clause-room : goal.returns-in_default-clause-room
returns-in_default-clause-room g c = λ journey reached waits. elim (c.in_default.not-Waits waits) [ ]

pub returns-then-is_one_leaving-clause-room : goal.returns-then-is_one_leaving-clause-room
returns-then-is_one_leaving-clause-room g c = λ journey reached waits.
    record { behind = c.requires.behind waits journey reached; owed = inr (c.is_one_leaving.ensures.one c.if-is_one_leaving.true) }

pub returns-in_default-eldest-clause-room : goal.returns-in_default-eldest-clause-room
returns-in_default-eldest-clause-room g c = λ journey reached waits.
    record { behind = c.requires.behind waits journey reached; owed = inl (c.in_default-eldest.ensures.none journey reached) }

pub returns-clause-room : goal.returns-clause-room
returns-clause-room g c = λ journey reached waits.
    let k = c.in-Some.k in
    let now = c.args.service.now in
    let places = now.places in
    let found_at = c.in-Some.ensures.eldest in
    let eldest = owed_eldest g.H.HookHost c.args.self.now.edge now (k, c.in-Some.place) found_at journey reached in
    let left = c.left_of_reply-left.result in
    let place' : Place = record c.in-Some.place { stage = Leaving left; came = now.times.steady } in
    record {
      behind = λ j other here holds. elim (set_cases places k j place' other here) [
        | inl is ↦ absurd (
            let none = ap length (subst (λ i. untaken (connection_at journey.world.connections i) ≡ []) is.0 holds.nothing_owed) in
            let some = eldest.holds.some_left in
            omega (arith, none, some))
        | inr not ↦ c.requires.behind waits journey reached j other not.1 holds
      ];
      owed = inr (record { k = k; place = place'; here = set_here places k c.in-Some.place place' found_at.here; left = left; leaving = refl; lately = omega arith });
    }
