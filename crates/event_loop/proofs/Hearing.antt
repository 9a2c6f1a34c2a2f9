-- What is read between two waits, each place once.
use Rattle.std.proofs.Common.{◌≡◌, ◌≢◌, inl, inr, ◌<◌, ◌≤◌, ◌+◌, ℕ, suc, List, ◌∷◌, [], Option, Some, None, true, false, refl, sym, ap, subst, ◌∙◌, arith, replicate, slice_get, slice_set}
use Rattle.event_loop.proofs.Names.{Promises, LoopState, IsUnkept, Hosting, InEach, Service, Ready, Tools, Past, Running, Standing, standing, running, state_of, Served, goes, looks_again, fails_to_look, MayLook, CallKind, Reading, Writing, Keeping}
use Rattle.event_loop.proofs.Names.{Looking, Call, IsDone, DoneAfter, IsHeardAt, IsHearing, GoesReading, ReadsAt, GoesFurther, LeadsToHearing, LeadsReading, NobodyIsSilent, waits_done, eqb_tells, false≢true, below_more}
use Rattle.outside.specs.Calls as call
use Rattle.event_loop.proofs.Answering.{served_answered}
use Rattle.event_loop.proofs.Doing.{done_then, not_another, not_of_kind}
use Rattle.event_loop.proofs.Putting.{get_replicate, set_other}
use Rattle.event_loop.proofs.Resting.{not_rested}

-- behind a wait nothing was read yet
pub hearing_first : {H : Type 0} (service : Service) (past : Past H) → service.heard ≡ replicate 64 false → ((kind : CallKind) → ¬ (IsDone kind past.calls)) → IsHearing service past
hearing_first service past heard none = record {
  heard_are = λ j less. record { unread = λ no. none (Reading j); read = λ yes. absurd (false≢true (sym (get_replicate 64 j false true (ap (λ l. slice_get l j) (sym heard) ∙ yes)))) };
  unwritten = λ j. none (Writing j);
  not_kept = none Keeping;
}

-- a look reads nothing
hearing_looked : {H : Type 0} (service service' : Service) (past : Past H) (nth room : ℕ) (came : Option (List Ready)) → service'.heard ≡ service.heard → IsHearing service past →
    IsHearing service' (record past { calls = call.Looked nth room came ∷ past.calls })
hearing_looked service service' past nth room came same was = record {
  heard_are = λ j less. record {
    unread = λ no. not_another (Looking nth) (Reading j) past.calls (λ e. absurd (cc)) ((was.heard_are j less).unread (ap (λ l. slice_get l j) (sym same) ∙ no));
    read = λ yes. inr ((was.heard_are j less).read (ap (λ l. slice_get l j) (sym same) ∙ yes));
  };
  unwritten = λ j. not_another (Looking nth) (Writing j) past.calls (λ e. absurd (cc)) (was.unwritten j);
  not_kept = not_another (Looking nth) Keeping past.calls (λ e. absurd (cc)) was.not_kept;
}

look_done : (nth room : ℕ) (came : Option (List Ready)) (calls : List Call) → DoneAfter calls (call.Looked nth room came ∷ calls)
look_done nth room came calls = record { more = record { waits = refl; grows = omega arith; keeps = λ kind t. inr t }; alone = not_of_kind call.Shortening calls (λ is. absurd (cc)) }

module _ {N C J K H : Type 0} (p : Promises N C J K H) where
  -- one place more was read, or is not to be
  abbrev pub heard_more : (first : LoopState N C J K H) (k : ℕ) (before : Standing N C J K H) (after : Running N C J K H) (x : GoesReading p first k before after) → IsHeardAt k after.service x.on.next →
      GoesReading p first (k + 1) before after
  heard_more first k before after x here = record { on = x.on; rested = x.rested; heard = below_more (λ j. IsHeardAt j after.service x.on.next) k x.heard here; hearing = x.hearing }

  -- where a place is read that was not, that is noted
  pub hearing_read : (first : LoopState N C J K H) (k : ℕ) (before : Standing N C J K H) (after : Running N C J K H) (x : ReadsAt p first k before after) →
      after.service.heard ≡ slice_set before.now.service.heard k true → IsHearing before.now.service before.past → IsHearing after.service x.goes.on.next
  hearing_read first k before after x heard was = record {
    heard_are = λ j less. elim (eqb_tells j k) [
      | inl is ↦ record {
        unread = λ no. absurd (not_rested before.now.service.heard k (ap (λ l. slice_get l k) (sym heard) ∙ subst (λ i. slice_get after.service.heard i ≡ Some false) is.1 no));
        read = λ yes. subst (λ i. IsDone (Reading i) x.goes.on.next.calls) (sym is.1) x.done;
      }
      | inr is ↦ (let here : slice_get after.service.heard j ≡ slice_get before.now.service.heard j = ap (λ l. slice_get l j) heard ∙ set_other before.now.service.heard k j true is.1 in
          record {
            unread = λ no. x.goes.alone (Reading j) (λ e. is.1 (let same : j ≡ k = cc in same)) ((was.heard_are j less).unread (sym here ∙ no));
            read = λ yes. x.goes.on.done.more.keeps (Reading j) ((was.heard_are j less).read (sym here ∙ yes));
          })
    ];
    unwritten = λ j. x.goes.alone (Writing j) (λ e. absurd (cc)) (was.unwritten j);
    not_kept = x.goes.alone Keeping (λ e. absurd (cc)) was.not_kept;
  }

  -- while something is unkept it may be looked again
  pub may_look : (first : LoopState N C J K H) (start : Running N C J K H) (since : Past H) (nth room : ℕ) (service : Service) (tools : Tools N C J K H)
      (far : GoesFurther p first nth (standing start [] since) (running service tools)) → InEach p.hosting tools.edge IsUnkept → 0 < waits_done since.calls → nth < 3 → 65 ≤ room →
      MayLook (state_of (running service tools) [] far.reading.on.next) nth room
  may_look first start since nth room service tools far unkept behind few roomy = record {
    unkept = unkept far.reading.on.next.journey (served_answered p first _ far.reading.on.served).reached;
    not_kept = far.reading.hearing.not_kept;
    behind = (let same = far.reading.on.done.more.waits in omega (arith, same, behind));
    unlooked = far.unlooked nth (omega arith);
    few = few;
    heard = refl;
    roomy = roomy;
  }

  -- where that fails, all is as it was
  pub look_fails : (first : LoopState N C J K H) (start : Running N C J K H) (since : Past H) (nth room : ℕ) (a : Service) (t : Tools N C J K H) (n : N)
      (far : GoesFurther p first nth (standing start [] since) (running a t)) → MayLook (state_of (running a t) [] far.reading.on.next) nth room →
      p.sockets.does t.sockets (call.WaitFailed (Some 0) room) n → GoesFurther p first (nth + 1) (standing start [] since) (running a (record t { sockets = n }))
  look_fails first start since nth room a t n far may done =
      let now = far.reading.on.next in
      let past : Past H = record now { calls = call.Looked nth room None ∷ now.calls } in
      record {
        reading = record {
          on = record {
            next = past;
            served = goes far.reading.on.served (fails_to_look nth room n may done);
            done = done_then since.calls now.calls past.calls far.reading.on.done (look_done nth room None now.calls);
            within = far.reading.on.within;
          };
          rested = far.reading.rested;
          heard = λ j less. elim (far.reading.heard j less) [ inl not ↦ inl not | inr read ↦ inr (inr read) ];
          hearing = hearing_looked a a now nth room None refl far.reading.hearing;
        };
        unlooked = λ m from. not_another (Looking nth) (Looking m) now.calls (λ e. (let is : m ≡ nth = cc in absurd (omega (arith, from, is)))) (far.unlooked m (omega (arith, from)));
      }

  -- and what came was read, where it was not read before
  pub look_then : (first : LoopState N C J K H) (start : Running N C J K H) (since : Past H) (nth room : ℕ) (found : List Ready) (a b c : Service) (t v : Tools N C J K H) (n : N)
      (far : GoesFurther p first nth (standing start [] since) (running a t)) → MayLook (state_of (running a t) [] far.reading.on.next) nth room →
      p.sockets.does t.sockets (call.Waited (Some 0) room found) n → LeadsToHearing p found (running a (record t { sockets = n })) [] (running b (record t { sockets = n })) →
      b.heard ≡ a.heard → (NobodyIsSilent a → NobodyIsSilent b) → LeadsReading p 64 (running b (record t { sockets = n })) (running c v) →
      GoesFurther p first (nth + 1) (standing start [] since) (running c v)
  look_then first start since nth room found a b c t v n far may done hears same within reads =
      let now = far.reading.on.next in
      let past : Past H = record now { calls = call.Looked nth room (Some found) ∷ now.calls } in
      let looked = goes far.reading.on.served (looks_again nth room found n may done) in
      let told = hears first past looked far.reading.rested in
      let read = reads first [] past (hearing_looked a b now nth room (Some found) same far.reading.hearing) told.1 told.0 in
      record {
        reading = record {
          on = record {
            next = read.goes.on.next;
            served = read.goes.on.served;
            done = done_then since.calls now.calls read.goes.on.next.calls far.reading.on.done (done_then now.calls past.calls read.goes.on.next.calls (look_done nth room (Some found) now.calls) read.goes.on.done);
            within = λ was. read.goes.on.within (within (far.reading.on.within was));
          };
          rested = read.goes.rested;
          heard = read.goes.heard;
          hearing = read.goes.hearing;
        };
        unlooked = λ m from. read.unlooked m (not_another (Looking nth) (Looking m) now.calls (λ e. (let is : m ≡ nth = cc in absurd (omega (arith, from, is)))) (far.unlooked m (omega (arith, from))));
      }
