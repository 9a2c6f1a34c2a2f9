-- Parts of the loop, one after another.
use Rattle.std.proofs.Common.{◌≡◌, ◌≢◌, inl, inr, ◌<◌, ◌≤◌, ◌+◌, ℕ, suc, List, true, false, Some, refl, sym, subst, arith, ◌⊎◌, ◌∙◌, slice_get}
use Rattle.event_loop.proofs.Names.{Place, NeedsNoRead, NeedsNoWrite, Closes, Passes, hands_on, leaves, eqb_tells, World, known, IsReached, Promises, LoopState, IsAllKept, Service, Ready, Tools, Reading, Writing}
use Rattle.event_loop.proofs.Names.{IsDone, done_since, Served, Past, LeavesOthers, HoldsAt, LeadsToActs, LeadsToTidy, LeadsToSettled, LeadsToAccepts, GoesReading, GoesKept, GoesTold, GoesWriting, IsWritable, LeadsToTold}
use Rattle.event_loop.proofs.Names.{LeadsWriting, AreAllSettled, DoneAfter, GoesSettled, StaysIdle, ActsAt, SettlesAt, TidiesAt, IsHeardAt, IsRestedAt, IsRested, IsSettledAt, running, standing, state_of, to_write}
use Rattle.std.specs.Prelude.{⊤}
use Rattle.outside.specs.Calls.{IsConfirmed}
use Rattle.event_loop.proofs.Others.{forgets_other}
use Rattle.event_loop.proofs.Answering.{served_answered}
use Rattle.event_loop.proofs.Doing.{none_more, done_then, done_some, on_then}
use Rattle.event_loop.proofs.Kept.{all_kept_still}
use Rattle.event_loop.proofs.Resting.{none_left, still_holds, others_then, heard_other, rested_other, others_kept, rests_turned, settled_then}

module _ {N C J K H : Type 0} (p : Promises N C J K H) where
  -- what closes a connection leaves the others
  pub closes_other : (k : ℕ) (place : Place) (s s' : LoopState N C J K H) → Closes p k place s s' → (j : ℕ) → j ≢ k → known s'.progress j ≡ known s.progress j
  closes_other k place s s' (leaves n e on noted done noting) j other = forgets_other s.progress.journey.world on.world k j on.happens other

  -- and nothing more is unkept
  pub closes_kept : (k : ℕ) (place : Place) (s s' : LoopState N C J K H) → Closes p k place s s' → IsAllKept s.progress.journey.world → IsAllKept s'.progress.journey.world
  closes_kept k place s s' (leaves n e on noted done noting) all = all_kept_still s.progress.journey.world on.world on.happens.still.kept on.happens.still.history all

  -- nor is more told
  pub closes_told : (k : ℕ) (place : Place) (s s' : LoopState N C J K H) → Closes p k place s s' → s'.progress.audience ≡ s.progress.audience
  closes_told k place s s' (leaves n e on noted done noting) = refl

  -- nor is more read
  pub closes_confirmed : (k : ℕ) (place : Place) (s s' : LoopState N C J K H) → Closes p k place s s' → IsConfirmed s.calls → IsConfirmed s'.calls
  closes_confirmed k place s s' (leaves n e on noted done noting) was = was

  -- and it is reached
  pub closes_reached : (k : ℕ) (place : Place) (s s' : LoopState N C J K H) → Closes p k place s s' → IsReached p.hosting s'.progress
  closes_reached k place s s' (leaves n e on noted done noting) = on.reached

  pub passes_reached : (k : ℕ) (place : Place) (s s' : LoopState N C J K H) → Passes p k place s s' → IsReached p.hosting s'.progress
  passes_reached k place s s' (hands_on n e on done) = on.reached

  -- a write, and a close where it is over
  pub turn_then : (k : ℕ) (b c d : Service) (u v w : Tools N C J K H) → LeadsToActs p (to_write k) (running b u) (running c v) → LeadsToTidy p k (running c v) (running d w) →
      (first : LoopState N C J K H) (found : List Ready) (past : Past H) → IsHeardAt k b past → ¬ (IsDone (Writing k) past.calls) → IsWritable past u.tellings → Served p first (state_of (running b u) found past) →
      SettlesAt p first k (standing (running b u) found past) (running d w)
  turn_then k b c d u v w one two first found past heard unwritten kept served =
      record {
        goes = record {
          on = on_then p first (standing (running b u) found past) (running c v) (running d w) y.goes.on z.goes.on;
          others = others_then k b past.journey.world c y.goes.on.next.journey.world d z.goes.on.next.journey.world y.goes.others z.goes.others;
          alone = λ other differs not. z.goes.alone other differs (y.goes.alone other differs not);
          ready = λ was. z.goes.ready (y.goes.ready was);
        };
        settled = record {
          rested = z.rested;
          turned = elim tended_or_still [
            | inl tended ↦ z.turned (inr tended) written
            | inr still ↦ z.turned (inl (still_holds (to_write k) k b c past.journey.world y.goes.on.next.journey.world NeedsNoRead still.1 still.0)) written
          ];
          active = λ e. elim tended_or_still [
            | inl tended ↦ (let some = tended_some tended in omega (arith, some, z.goes.on.done.more.grows))
            | inr still ↦ absurd (none_left k b c past.journey.world y.goes.on.next.journey.world still.0 still.1 (z.left e))
          ];
        };
      }
    where
      y : ActsAt p first (to_write k) (standing (running b u) found past) (running c v)
      y = one first found past unwritten kept served (served_answered p first _ served).reached

      z : TidiesAt p first k (standing (running c v) found y.goes.on.next) (running d w)
      z = two first found y.goes.on.next y.goes.on.served (served_answered p first _ y.goes.on.served).reached

      tended_or_still : (IsDone (Reading k) y.goes.on.next.calls ⊎ IsDone (Writing k) y.goes.on.next.calls) ⊎ (HoldsAt k b past.journey.world NeedsNoRead × StaysIdle (to_write k) b past.journey.world c y.goes.on.next.journey.world)
      tended_or_still = elim heard [
        | inr read ↦ inl (inl (y.goes.on.done.more.keeps (Reading k) read))
        | inl unread ↦ elim y.acts [
          | inr done ↦ inl (inr done)
          | inl still ↦ inr (unread, still)
        ]
      ]

      tended_some : IsDone (Reading k) y.goes.on.next.calls ⊎ IsDone (Writing k) y.goes.on.next.calls → 0 < done_since y.goes.on.next.calls
      tended_some (inl read) = done_some (Reading k) y.goes.on.next.calls (λ e. absurd (cc)) (λ n e. absurd (cc)) read
      tended_some (inr done) = done_some (Writing k) y.goes.on.next.calls (λ e. absurd (cc)) (λ n e. absurd (cc)) done

      written : HoldsAt k c y.goes.on.next.journey.world NeedsNoWrite ⊎ IsDone (Writing k) y.goes.on.next.calls
      written = elim y.acts [
        | inl still ↦ inl (still_holds (to_write k) k b c past.journey.world y.goes.on.next.journey.world NeedsNoWrite still still.rests)
        | inr done ↦ inr done
      ]

  -- all places are read, what changed is kept, and all are written to
  pub kept_then : (first : LoopState N C J K H) (found : List Ready) (past : Past H) (a b c : Service) (s u v w : Tools N C J K H) →
      GoesReading p first 64 (standing (running a s) found past) (running b u) → LeadsToTold p b u v → LeadsWriting p 64 (running b v) (running c w) → GoesWriting p first 64 (standing (running a s) found past) (running c w)
  kept_then first found past a b c s u v w read keep write = record {
    on = record {
      next = z.on.next;
      served = z.on.served;
      done = done_then past.calls y.next.calls z.on.next.calls (done_then past.calls read.on.next.calls y.next.calls read.on.done y.done) z.on.done;
      within = λ was. z.on.within (read.on.within was);
    };
    below = z.below;
    rested = z.rested;
    heard = z.heard;
    unwritten = z.unwritten;
    kept = z.kept;
  }
    where
      x : GoesTold p first (standing (running b u) found read.on.next) v
      x = keep first found read.on.next read.hearing.not_kept read.on.served (served_answered p first _ read.on.served).reached

      y : GoesKept p first (standing (running b u) found read.on.next) v
      y = x.goes

      z : GoesWriting p first 64 (standing (running b v) found y.next) (running c w)
      z = write first found y.next
          (λ j less. rested_other (suc j) j b read.on.next.journey.world b y.next.journey.world (others_kept j b read.on.next.journey.world y.next.journey.world y.connections) (λ is. absurd (omega (arith, is))) (read.rested j less))
          (λ j less. heard_other (suc j) j b read.on.next b y.next (others_kept j b read.on.next.journey.world y.next.journey.world y.connections) y.done (λ is. absurd (omega (arith, is))) (read.heard j less))
          (λ j. y.alone (Writing j) (λ e. absurd (cc)) (read.hearing.unwritten j)) (elim y.confirmed [ inl nowhere ↦ inl nowhere | inr asked ↦ inr (record { kept = y.kept; told = x.told; confirmed = asked }) ]) y.served

  -- at all places, one after another
  pub to_then : (f g h : List Ready) (a b c : Service) (t u v : Tools N C J K H) → LeadsToSettled p f (running a t) g (running b u) → LeadsToSettled p g (running b u) h (running c v) → LeadsToSettled p f (running a t) h (running c v)
  to_then f g h a b c t u v one two first past served settled =
      let x = one first past served settled in
      let y = two first x.next x.served x.settled in
      record { next = y.next; served = y.served; settled = y.settled; done = done_then _ _ _ x.done y.done }

  -- where the places and what is due are as they were, all places are as settled
  abbrev pub goes_still : (first : LoopState N C J K H) (found : List Ready) (past next : Past H) (a b : Service) (t : Tools N C J K H) → b.places ≡ a.places → b.due ≡ a.due → next.journey.world ≡ past.journey.world →
      DoneAfter past.calls next.calls → Served p first (state_of (running b t) found next) → AreAllSettled a past → GoesSettled p first found past (running b t)
  goes_still first found past next a b t places due world done served settled =
      record { next = next; served = served; settled = settled_then a past b next places due world done settled; done = done }

  pub nowhere : (f : List Ready) (a : Service) (t : Tools N C J K H) → LeadsToSettled p f (running a t) f (running a t)
  nowhere f a t first past served settled = goes_still first f past past a a t refl refl refl (none_more past.calls) served settled

  -- and then it was tried to accept
  pub accepts_then : {P Q : Type 0} (a b c : Service) (t u v : Tools N C J K H) → LeadsToAccepts p P (running a t) (running b u) → LeadsToAccepts p ⊤ (running b u) (running c v) → LeadsToAccepts p Q (running a t) (running c v)
  accepts_then a b c t u v one two found first past served settled =
      let x = one found first past served settled in
      let y = two found first x.goes.next x.goes.served x.goes.settled in
      record {
        goes = record { next = y.goes.next; served = y.goes.served; settled = y.goes.settled; done = done_then _ _ _ x.goes.done y.goes.done };
        tried = λ _. y.tried tt;
      }

-- what rests was heard
pub rested_heard : {H : Type 0} (k : ℕ) (service : Service) (past : Past H) → IsRestedAt k service past.journey.world → slice_get service.due k ≡ Some false → IsHeardAt k service past
rested_heard k service past rested none = inl (λ place here. (rested none place here).unread)

-- what rests is settled
pub rested_settled : {H : Type 0} (k : ℕ) (service : Service) (past : Past H) → IsRestedAt k service past.journey.world → slice_get service.due k ≡ Some false → IsSettledAt k service past
rested_settled k service past rested none = record {
  rested = rested;
  turned = λ place here. rests_turned k place _ past.calls (rested none place here);
  active = λ due. absurd (let not = sym none ∙ due in cc);
}

-- where something may be due at one place, the others rest as they did
pub rested_next : (k : ℕ) (service : Service) (world : World) (service' : Service) (world' : World) → LeavesOthers k service world service' world' → slice_get service'.due k ≡ Some true →
    IsRested service world → IsRested service' world'
rested_next k service world service' world' others due rested j less =
    elim (eqb_tells j k) [
      | inl is ↦ λ none. absurd (let not = sym none ∙ subst (λ i. slice_get service'.due i ≡ Some true) (sym is.1) due in cc)
      | inr is ↦ rested_other k j service world service' world' others is.1 (rested j less)
    ]

-- each has its own kind
pub writing_other : (j k : ℕ) → k + 1 ≤ j → Writing j ≡ Writing k → ⊥
writing_other j k from e = (let same : j ≡ k = cc in absurd (omega (arith, from, same)))
