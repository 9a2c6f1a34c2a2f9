-- A call at one place.
use Rattle.std.proofs.Common.{◌≡◌, ◌≢◌, inl, inr, ℕ, Some, refl, sym, ap, subst, ◌∙◌, arith, true, false, slice_get, slice_set}
use Rattle.telling.specs.Audience.{IsAllTold}
use Rattle.event_loop.proofs.Names.{IsWritable, Place, IsOccupied, MayRead, MayWrite, read_limit, AreWithin, same_Some, connection_at, Progress, known, led, Promises, LoopState, IsAllKept, with_call, with_place}
use Rattle.event_loop.proofs.Names.{Ended, Broken, CallKind, IsDone, Transfer, Reading, Writing, Served, goes, Running, Standing, Past, Duty, DoneAfter, ActsAt, ReadsAt, IsReadyFor, past_of, state_of, to_read}
use Rattle.event_loop.proofs.Names.{to_write, taken_stage, ReadsPlace, WritesPlace, offered, Read, Write, Refused}
use Rattle.outside.specs.Calls as call
use Rattle.event_loop.specs.Reading as reading
use Rattle.event_loop.specs.Writing as writing
use Rattle.event_loop.specs.Served as step
use Rattle.event_loop.proofs.Others.{ends_other, takes_other}
use Rattle.event_loop.proofs.Telling.{gives_other}
use Rattle.event_loop.proofs.Kept.{takes_kept}
use Rattle.event_loop.proofs.Doing.{on_still, one_more, not_of_kind, not_another}
use Rattle.event_loop.proofs.Putting.{put_within, put_still, set_other}
use Rattle.event_loop.proofs.Answering.{served_taken}

-- one call of its kind is made at one place, and nobody becomes silent for longer
pub record ActsOnce {N C J K H : Type 0} (duty : Duty) (s s' : LoopState N C J K H) : Type 0 where
  pub done : DoneAfter s.calls s'.calls
  pub places : (j : ℕ) → j ≢ duty.k → slice_get s'.places j ≡ slice_get s.places j
  pub connections : (j : ℕ) → j ≢ duty.k → known s'.progress j ≡ known s.progress j
  pub ready : IsReadyFor duty.kind (past_of s) s.progress.audience → IsReadyFor duty.kind (past_of s') s'.progress.audience
  pub alone : (other : CallKind) → other ≢ duty.kind → ¬ (IsDone other s.calls) → ¬ (IsDone other s'.calls)
  pub acts : IsDone duty.kind s'.calls
  pub within : AreWithin s.limits.idle s.times s.places → AreWithin s'.limits.idle s'.times s'.places

module _ {N C J K H : Type 0} (p : Promises N C J K H) (k : ℕ) (place : Place) where
  -- what is known of the place is other, and its connection is as silent as it was
  module _ (s : LoopState N C J K H) (here : slice_get s.places k ≡ Some place) (taken : IsOccupied place.stage) where
    silent : (place' : Place) → place'.since ≡ place.since → AreWithin s.limits.idle s.times s.places → AreWithin s.limits.idle s.times (slice_set s.places k place')
    silent place' since = put_still s.limits.idle s.times s.places k place place' here (λ _. taken) since

    reads : (came : Transfer) (place' : Place) (n : N) (progress : Progress H) → place'.since ≡ place.since → ((j : ℕ) → j ≢ k → known progress j ≡ known s.progress j) →
        ActsOnce (to_read k) s (record (with_place (with_call s (call.Read k read_limit came) n) k place') { progress = progress })
    reads came place' n progress since others = record {
      done = one_more _ _ refl refl (λ kind t. inr t) (not_of_kind _ _ (λ is. absurd (cc)));
      places = λ j other. set_other s.places k j place' other;
      connections = others;
      ready = λ was. was;
      alone = λ other differs not. not_another (Reading k) other s.calls differs not;
      acts = inl refl;
      within = silent place' since;
    }

    writes : (took : Transfer) (place' : Place) (n : N) (progress : Progress H) → ((j : ℕ) → j ≢ k → known progress j ≡ known s.progress j) →
        (IsAllKept s.progress.journey.world → IsAllKept progress.journey.world) → progress.audience ≡ s.progress.audience →
        (AreWithin s.limits.idle s.times s.places → AreWithin s.limits.idle s.times (slice_set s.places k place')) →
        ActsOnce (to_write k) s (record (with_place (with_call s (offered s k place took) n) k place') { progress = progress })
    writes took place' n progress others kept told within = record {
      done = one_more _ _ refl refl (λ kind t. inr t) (not_of_kind _ _ (λ is. absurd (cc)));
      places = λ j other. set_other s.places k j place' other;
      connections = others;
      ready = λ was. record { kept = kept was.kept; told = subst IsAllTold (sym told) was.told; confirmed = was.confirmed };
      alone = λ other differs not. not_another (Writing k) other s.calls differs not;
      acts = inl refl;
      within = within;
    }

    reads_once : (s' : LoopState N C J K H) → ReadsPlace p k place s s' → ActsOnce (to_read k) s s'
    reads_once s' (reading.hears bytes n progress place' some few done heard is) =
        reads (call.Bytes bytes) place' n progress (ap (λ (q : Place). q.since) is) (λ j. gives_other p.hosting _ j s.progress heard.given progress heard.gives)
    reads_once s' (reading.refuses bytes n fault progress some few done unheard) =
        reads (call.Bytes bytes) (record place { stage = Broken (Refused fault) }) n progress refl (λ j. gives_other p.hosting _ j s.progress unheard.given progress unheard.gives)
    reads_once s' (reading.ends n e on done) = reads call.End (record place { stage = Ended }) n (led s.progress on) refl (λ j. ends_other s.progress.journey.world on.world k j on.happens)
    reads_once s' (reading.ends_nothing n fault done refused) = reads call.End (record place { stage = Broken (Refused fault) }) n s.progress refl (λ j other. refl)
    reads_once s' (reading.finds_nothing n done) = reads call.Nothing (record place { readable = false }) n s.progress refl (λ j other. refl)
    reads_once s' (reading.fails n done) = reads call.Failed (record place { stage = Broken Read }) n s.progress refl (λ j other. refl)

    writes_once : (s' : LoopState N C J K H) → WritesPlace p k place s s' → ActsOnce (to_write k) s s'
    writes_once s' (writing.sends count front n e on some within is done) =
        writes (call.Bytes front) (record place { stage = taken_stage place.stage count; since = s.times.steady; turn = s.turn }) n (led s.progress on) (λ j. takes_other s.progress.journey.world on.world k j count on.happens)
        (takes_kept s.progress.journey.world on.world k count on.happens) refl (put_within s.limits.idle s.times s.places k (record place { stage = taken_stage place.stage count; since = s.times.steady; turn = s.turn }) (λ _. omega arith))
    writes_once s' (writing.finds_no_room n done) =
        writes call.Nothing (record place { writable = false }) n s.progress (λ j other. refl) (λ was. was) refl (silent (record place { writable = false }) refl)
    writes_once s' (writing.fails n done) =
        writes call.Failed (record place { stage = Broken Write }) n s.progress (λ j other. refl) (λ was. was) refl (silent (record place { stage = Broken Write }) refl)

  module _ (first : LoopState N C J K H) (before : Standing N C J K H) (here : slice_get before.now.service.places k ≡ Some place) where
    acts_once : (duty : Duty) (after : Running N C J K H) (next : Past H) → after.service.due ≡ before.now.service.due →
        ActsOnce duty (state_of before.now before.found before.past) (state_of after before.found next) → Served p first (state_of after before.found next) → ActsAt p first duty before after
    acts_once duty after next due once served = record {
      goes = record {
        on = record { next = next; served = served; done = once.done; within = once.within };
        others = record { places = once.places; due = λ j other. ap (λ l. slice_get l j) due; connections = once.connections };
        ready = once.ready;
        alone = once.alone;
      };
      due = due;
      acts = inr once.acts;
    }

    -- so it is where it is read
    pub read_done : (after : Running N C J K H) (next : Past H) → after.service.due ≡ before.now.service.due → place.readable ≡ true → ¬ (IsDone (Reading k) before.past.calls) →
        MayRead place (connection_at before.past.journey.world.connections k) → Served p first (state_of before.now before.found before.past) →
        ReadsPlace p k place (state_of before.now before.found before.past) (state_of after before.found next) → ReadsAt p first k before after
    unfolding acts_once
    read_done after next due readable undone may served reading =
        let once = reads_once _ here (subst IsOccupied (sym may.is_open) tt) _ reading in
        let acts = acts_once (to_read k) after next due once (goes served (step.reads k place _ here readable undone may reading)) in
        record { goes = acts.goes; due = due; done = once.acts }

    -- or written to
    pub write_acts : (after : Running N C J K H) (next : Past H) → after.service.due ≡ before.now.service.due → place.writable ≡ true → ¬ (IsDone (Writing k) before.past.calls) → IsWritable before.past before.now.tools.tellings →
        MayWrite place (connection_at before.past.journey.world.connections k) → Served p first (state_of before.now before.found before.past) →
        WritesPlace p k place (state_of before.now before.found before.past) (state_of after before.found next) → ActsAt p first (to_write k) before after
    write_acts after next due writable undone kept may served writing =
        acts_once (to_write k) after next due (writes_once _ here (served_taken place.stage may.served) _ writing) (goes served (step.writes k place _ here writable undone kept.kept kept.told kept.confirmed may writing))

-- or nothing is to be done there
pub idle_acts : {N C J K H : Type 0} (p : Promises N C J K H) (first : LoopState N C J K H) (duty : Duty) (before : Standing N C J K H) (place : Place) → slice_get before.now.service.places duty.k ≡ Some place →
    duty.rests place (connection_at before.past.journey.world.connections duty.k) → Served p first (state_of before.now before.found before.past) → ActsAt p first duty before before.now
idle_acts p first duty before place here rests served = record {
  goes = record {
    on = on_still p first before served;
    others = record { places = λ j other. refl; due = λ j other. refl; connections = λ j other. refl };
    ready = λ was. was;
    alone = λ other differs not. not;
  };
  due = refl;
  acts = inl (record {
    service_is = refl;
    world_is = refl;
    rests = λ q there. subst (λ r. duty.rests r (connection_at before.past.journey.world.connections duty.k)) (same_Some place q (sym here ∙ there)) rests;
  });
}
