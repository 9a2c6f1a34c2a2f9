use Rattle.std.proofs.Common.{inl, arith, ◌≡◌, ◌∷◌, [], Some, refl, sym, subst, inr, ◌∙◌, slice_set}
use Rattle.event_loop.proofs.Names.{IsPlaceAtRest, Opened, connection_at, fresh, led_on, promises, Service, opens, denies, finds_nobody, fresh_place, goes, comes, Past, noted_in, keeping}
use Rattle.event_loop.specs.Coming.{fails}
use Rattle.outside.specs.declared.sockets.Accepted.TheVariants as accepted
use Rattle.outside.specs.Calls as call
use Rattle.event_loop.proofs.Doing.{one_more, not_of_kind, done_then}
use Rattle.event_loop.proofs.Leading.{goes_still}
use Rattle.event_loop.proofs.Putting.{put_within}
use Rattle.event_loop.proofs.Others.{opens_other}
use Rattle.event_loop.proofs.Telling.{opened_here}
use Rattle.event_loop.proofs.Answering.{served_answered}
use Rattle.event_loop.proofs.Resting.{put_others, put_settled, all_settled, settled_then, fresh_rests}
use Rattle.event_loop.proofs.tools.Tools.admit.Goals as goal

pub returns-in-Ok-clause-leads : goal.returns-in-Ok-clause-leads
returns-in-Ok-clause-leads g c = λ found first past h settled.
    let reached = (served_answered (promises g.N.Sockets g.C.Clocks g.J.Journal (keeping g.K.Keeper) g.H.HookHost) first _ h).reached in
    let k = c.args.k in
    let place = fresh_place c.args.service.now.times.steady in
    let on = rw c.new.ensures at (c.in-Ok.ensures.done past.journey reached) in
    let here : connection_at on.world.connections k ≡ Some (fresh k) = opened_here past.journey.world on.world k on.happens in
    let rests : IsPlaceAtRest place (connection_at on.world.connections k) = subst (λ o. IsPlaceAtRest place o) (sym here) (fresh_rests c.args.service.now.times.steady (fresh k) refl refl) in
    let next : Past g.row.H.Denot = record { calls = call.Tried k accepted.Taken ∷ past.calls; journey = led_on past.journey (Opened k ∷ []) on.world } in
    let service : Service = record c.args.service.now { places = slice_set c.args.service.now.places k place; accepted = c.saturating_add-service.result } in
    record {
      goes = record {
        next = next;
        served = rw c.saturating_add-service.ensures (goes h (comes _ c.requires.told (opens k c.accept.new.self c.event.new.self on c.requires.bound c.requires.free c.in-Taken.ensures)));
        settled =
            all_settled k c.args.service.now past service next (put_others k c.args.service.now service place past.journey.world on.world refl (λ j other. refl) (λ j other. opens_other past.journey.world on.world k j on.happens other))
            (one_more _ _ refl refl (λ kind t. inr t) (not_of_kind _ _ (λ is. absurd (cc)))) settled (put_settled k c.args.service.now service place next refl rests (λ e. omega arith));
        done = one_more _ _ refl refl (λ kind t. inr t) (not_of_kind _ _ (λ is. absurd (cc)));
      };
      tried = λ _. inl refl;
    }

pub returns-in-Err-clause-leads : goal.returns-in-Err-clause-leads
returns-in-Err-clause-leads g c = λ found first past h settled.
    let p = promises g.N.Sockets g.C.Clocks g.J.Journal (keeping g.K.Keeper) g.H.HookHost in
    let reached = (served_answered p first _ h).reached in
    let k = c.args.k in
    let refused = rw c.new.ensures at (c.in-Err.ensures.refused past.journey reached) in
    rw c.in-Err.ensures.err
    (record {
      goes = goes_still p first found past (record past { calls = call.Closed k ∷ call.Tried k accepted.Taken ∷ past.calls }) c.args.service.now _ _ refl refl refl
          (done_then _ (call.Tried k accepted.Taken ∷ past.calls) _ (one_more _ _ refl refl (λ kind t. inr t) (not_of_kind call.Shortening past.calls (λ is. absurd (cc))))
          (one_more _ _ refl refl (λ kind t. inr t) (not_of_kind call.Shortening (call.Tried k accepted.Taken ∷ past.calls) (λ is. absurd (cc)))))
          (goes h (comes _ c.requires.told
          (denies k c.accept.new.self c.close.new.self c.in-Err.fault (noted_in c.note.new.journal c.note.new.noted) c.requires.bound c.requires.free c.in-Taken.ensures refused c.close.ensures c.note.ensures))) settled;
      tried = λ _. inr (inl refl);
    })

pub returns-in-Later-clause-leads : goal.returns-in-Later-clause-leads
returns-in-Later-clause-leads g c = λ found first past h settled. record {
  goes = record { next = record past { calls = call.Tried c.args.k accepted.Later ∷ past.calls }; served = goes h (comes _ c.requires.told (finds_nobody c.args.k c.accept.new.self c.in-Later.ensures)); settled = settled_then c.args.service.now past _ _ refl refl refl (one_more _ _ refl refl (λ kind t. inr t) (not_of_kind _ _ (λ is. absurd (cc)))) settled; done = one_more _ _ refl refl (λ kind t. inr t) (not_of_kind _ _ (λ is. absurd (cc))) };
  tried = λ _. inl refl;
}

pub returns-in-Failed-clause-leads : goal.returns-in-Failed-clause-leads
returns-in-Failed-clause-leads g c = λ found first past h settled. record {
  goes = record { next = record past { calls = call.Tried c.args.k accepted.Failed ∷ past.calls }; served = goes h (comes _ c.requires.told (fails c.args.k c.accept.new.self (noted_in c.note-in-Failed.new.journal c.note-in-Failed.new.noted) c.in-Failed.ensures c.note-in-Failed.ensures)); settled = settled_then c.args.service.now past _ _ refl refl refl (one_more _ _ refl refl (λ kind t. inr t) (not_of_kind _ _ (λ is. absurd (cc)))) settled; done = one_more _ _ refl refl (λ kind t. inr t) (not_of_kind _ _ (λ is. absurd (cc))) };
  tried = λ _. inl refl;
}

pub returns-in-Ok-clause-calm : goal.returns-in-Ok-clause-calm
returns-in-Ok-clause-calm g c = λ calm. record {
  idle = put_within _ c.args.service.now.times c.args.service.now.places c.args.k (fresh_place c.args.service.now.times.steady) (λ taken. omega arith) calm.idle;
  crowded = λ waits. (let not = sym c.requires.told ∙ waits in absurd (cc));
  tried = calm.tried;
}

pub returns-in-Later-clause-calm : goal.returns-in-Later-clause-calm
returns-in-Later-clause-calm g c = λ calm. record { idle = calm.idle; crowded = λ waits. absurd (cc); tried = λ since barred. absurd (cc) }

pub returns-in-Failed-clause-calm : goal.returns-in-Failed-clause-calm
returns-in-Failed-clause-calm g c = λ calm. record { idle = calm.idle; crowded = λ waits. absurd (cc); tried = λ since barred. cc }

pub returns-in-Ok-clause-taken : goal.returns-in-Ok-clause-taken
returns-in-Ok-clause-taken g c = λ waits. (let not = sym c.requires.told ∙ waits in absurd (cc))

pub returns-in-Err-clause-taken : goal.returns-in-Err-clause-taken
returns-in-Err-clause-taken g c = λ waits. (let not = sym c.requires.told ∙ waits in absurd (cc))

pub returns-in-Later-clause-taken : goal.returns-in-Later-clause-taken
returns-in-Later-clause-taken g c = λ waits. absurd (cc)

pub returns-in-Failed-clause-taken : goal.returns-in-Failed-clause-taken
returns-in-Failed-clause-taken g c = λ waits. absurd (cc)
