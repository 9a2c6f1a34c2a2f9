-- A connection is closed in the progress of the loop.
use Rattle.std.proofs.Common.{Bool, true, false, ◌≡◌, ◌≢◌, ◌⊎◌, inl, inr, ◌<◌, ◌≤◌, ◌+◌, ℕ, suc, List, ◌∷◌, Option, Some, [], length, refl, sym, ap, subst, ◌∙◌, arith, slice_get, slice_set}
use Rattle.event_loop.proofs.Names.{Place, IsOccupied, Cause, slice_get_within, Promises, LoopState, Free, Service, Ready, Tools, Accepting, Shortening, Call, IsDone, IsIdle, IsKeptShort, IsPatient, MayWait, Served, goes, reports, false≢true}
use Rattle.event_loop.proofs.Names.{closes, DoneMore, DoneAfter, Past, IsCalm, OnlyTells, OnlyTellsRoom, IsLimit, IsReadyToWait, LeadsAway, LeadsTelling, LeadsToShort, LeadsToTended, SettlesAll, AreAllSettled, MayRest}
use Rattle.event_loop.proofs.Names.{Running, running, state_of, Told, Queue, waits_done, Reached, World, Times, IsRoomMadeIn}
use Rattle.std.proofs.Math.Bool.{beq}
use Rattle.event_loop.specs.Names.{WantsRoom}
use Rattle.event_loop.specs.Reporting.{wanted}
use Rattle.event_loop.specs.Served as served
use Rattle.outside.specs.Calls as call
use Rattle.change_codec.specs.declared.keeper.Length.{Length}
use Rattle.change_codec.specs.declared.keeper.Length.TheVariants.{Short, Long}
use Rattle.event_loop.specs.Goes as limited
use Rattle.event_loop.specs.Goes.{MayEnd, ServesOn}
use Rattle.event_loop.proofs.Doing.{closes_done, closes_some, done_some, done_then, none_more, not_without, tends_more}
use Rattle.event_loop.proofs.Answering.{served_answered}
use Rattle.event_loop.proofs.Leading.{closes_other}
use Rattle.event_loop.proofs.Resting.{put_others, put_settled, free_rests, all_settled, settled_still}

is_idle : {N C J K H : Type 0} (p : Promises N C J K H) (service : Service) (tools : Tools N C J K H) (past : Past H) → length service.places ≡ 64 → AreAllSettled service past → MayRest service →
    IsKeptShort p (state_of (running service tools) [] past) → IsIdle p (state_of (running service tools) [] past)
is_idle p service tools past size settled rest short = record {
  places = λ k place here. (settled k (below k place here)).rested (rest.due k (below k place here)) place here;
  queue = rest.queue;
  short = short;
}
  where
    below : (k : ℕ) (place : Place) → slice_get service.places k ≡ Some place → k < 64
    below k place here = let within = slice_get_within service.places k place here in omega (arith, size, within)

module _ {N C J K H : Type 0} (p : Promises N C J K H) where
  pub leaves_to : (k : _) (place : Place) (service : Service) (tools : Tools N C J K H) (service' : Service) (tools' : Tools N C J K H) → slice_get service.places k ≡ Some place → IsOccupied place.stage →
      ((found : List Ready) (past : Past H) → Reached p.hosting tools.edge past.journey → Cause (state_of (running service tools) found past) k place) → LeadsAway p k place (running service tools) (running service' tools') →
      service'.places ≡ slice_set service.places k (record place { stage = Free }) → service'.due ≡ service.due → SettlesAll p (running service tools) (running service' tools')
  leaves_to k place service tools service' tools' here taken cause leads places due found first past served settled =
      let reached = (served_answered p first _ served).reached in
      let away = leads found past reached in
      record {
        next = away.next;
        served = goes served (closes k place _ here taken (cause found past reached) away.closes);
        settled =
            all_settled k service past service' away.next
            (put_others k service service' (record place { stage = Free }) past.journey.world away.next.journey.world places (λ j other. ap (λ l. slice_get l j) due) (closes_other p k place _ _ away.closes))
            (closes_done p k place _ _ away.closes) settled
            (put_settled k service service' (record place { stage = Free }) away.next places (free_rests _ _ refl) (λ e. closes_some p k place _ _ away.closes));
        done = closes_done p k place _ _ away.closes;
      }

-- where something is noted to be due, something was done
is_patient : {N C J K H : Type 0} (p : Promises N C J K H) (service : Service) (tools : Tools N C J K H) (past : Past H) (told : Option Length) (due limit : Option ℕ) → length service.places ≡ 64 → IsReadyToWait service past →
    (told ≡ Some Long → IsDone Shortening past.calls) → (told ≢ Some Long → IsKeptShort p (state_of (running service tools) [] past)) → (told ≡ Some Short → ¬ (p.keeping.is_long tools.keeper)) →
    IsLimit service told due limit → IsPatient p (state_of (running service tools) [] past) due limit
is_patient p service tools past told due limit size ready sliced rests short (limited.looks (inl some)) = served.looks ((ready.settled some.k some.within).active some.here)
is_patient p service tools past told due limit size ready sliced rests short (limited.looks (inr queue)) = served.looks (elim ready.queue [ inl not ↦ absurd (not queue) | inr tried ↦ done_some Accepting past.calls (λ e. absurd (cc)) (λ n e. absurd (cc)) tried ])
is_patient p service tools past told due limit size ready sliced rests short (limited.shortens long) = served.looks (done_some Shortening past.calls (λ e. absurd (cc)) (λ n e. absurd (cc)) (sliced long))
is_patient p service tools past told due limit size ready sliced rests short (limited.rests rest not_long) = served.rests (is_idle p service tools past size ready.settled rest (rests not_long))
is_patient p service tools past told due limit size ready sliced rests short (limited.sleeps rest sleeps is undue) =
    served.sleeps (is_idle p service tools past size ready.settled rest (λ all long. absurd (short is long))) sleeps.free sleeps.unbarred sleeps.unwanted (short is) undue

-- where what is kept was shortened by a slice, or that was refused, all is as ready
ready_still : {H : Type 0} (service : Service) (past : Past H) (service' : Service) (calls : List Call) → service' ≡ record service { refused = service'.refused } → DoneMore past.calls calls → IsReadyToWait service past →
    IsReadyToWait service' (record past { calls = calls })
ready_still service past service' calls same done ready =
    let still : Service = record service { refused = service'.refused } in
    subst (λ (s : Service). IsReadyToWait s (record past { calls = calls })) (sym same) (record {
      settled = settled_still service past still (record past { calls = calls }) refl refl refl done ready.settled;
      queue = elim ready.queue [ inl not ↦ inl not | inr tried ↦ inr (done.keeps Accepting tried) ];
      calm = record { idle = ready.calm.idle; crowded = ready.calm.crowded; tried = ready.calm.tried };
      room = ready.room;
      reported = ready.reported;
    })

-- so it is where whether what is kept wants room was told
ready_told : {H : Type 0} (service : Service) (past : Past H) (service' : Service) → OnlyTellsRoom service service' → IsReadyToWait service past → IsReadyToWait service' past
ready_told service past service' tells ready =
    let still : Service = record service { told = record service.told { room = service'.told.room } } in
    subst (λ (s : Service). IsReadyToWait s past) (sym tells) (record {
      settled = settled_still service past still past refl refl refl (none_more past.calls).more ready.settled;
      queue = ready.queue;
      calm = record { idle = ready.calm.idle; crowded = ready.calm.crowded; tried = ready.calm.tried };
      room = ready.room;
      reported = ready.reported;
    })

-- what is told apart is not the same
pub told_apart : (a b : Bool) → beq a b ≡ false → a ≡ b → ⊥
told_apart true true other same = false≢true (sym other)
told_apart true false other same = false≢true (sym same)
told_apart false true other same = false≢true same
told_apart false false other same = false≢true (sym other)

-- where what is kept wants room otherwise than was told, it is told
pub want_told : {N C J K H : Type 0} (p : Promises N C J K H) (first : LoopState N C J K H) (found : List Ready) (past : Past H) (service : Service) (tools : Tools N C J K H) (wants : Bool) (journal : J) →
    wants ≡ p.keeping.wants_room tools.keeper → (wants ≡ service.told.room → ⊥) → p.journal.reports tools.journal (WantsRoom wants) journal → Served p first (state_of (running service tools) found past) →
    Served p first (state_of (running (record service { told = record service.told { room = wants } }) (record tools { journal = journal })) found past)
want_told p first found past service tools wants journal is other tells served =
    let P : Bool → Type 0 = λ b. (b ≡ service.told.room → ⊥) → p.journal.reports tools.journal (WantsRoom b) journal →
    Served p first (state_of (running (record service { told = record service.told { room = b } }) (record tools { journal = journal })) found past) in
    subst P (sym is) (λ not told. goes served (reports _ _ journal (wanted not) told)) other tells

-- and as little is kept
short_told : {N C J K H : Type 0} (p : Promises N C J K H) (b c : Service) (t v : Tools N C J K H) (past : Past H) → OnlyTellsRoom b c → v ≡ record t { journal = v.journal } →
    IsKeptShort p (state_of (running b t) [] past) → IsKeptShort p (state_of (running c v) [] past)
short_told p b c t v past tells same short =
    subst (λ (x : Service). IsKeptShort p (state_of (running x v) [] past)) (sym tells)
    (subst (λ (u : Tools _ _ _ _ _). IsKeptShort p (state_of (running (record b { told = record b.told { room = c.told.room } }) u) [] past)) (sym same) short)

-- a slice was done since the last wait, or none is to be done
sliced_or_short : {P Q : Type 0} (told : Option Length) → (told ≡ Some Long → P) → (told ≢ Some Long → Q) → P ⊎ Q
sliced_or_short (Some Long) sliced rests = inl (sliced refl)
sliced_or_short told sliced rests = inr (rests (λ is. absurd (cc)))

-- where it comes to before a wait, and that it may wait
pub record ComesToWait {N C J K H : Type 0} (p : Promises N C J K H) (first : LoopState N C J K H) (past : Past H) (after : Running N C J K H) (limit : Option ℕ) (room : ℕ) : Type 0 where
  pub next : Past H
  pub served : Served p first (state_of after [] next)
  pub ready : IsReadyToWait after.service next
  pub may : MayWait p (state_of after [] next) limit room
  pub waits_are : waits_done next.calls ≡ waits_done past.calls

pub may_wait : {N C J K H : Type 0} (p : Promises N C J K H) (a b c : Service) (r s t v : Tools N C J K H) (told : Option Length) (due limit : Option ℕ) (room : ℕ) → length a.places ≡ 64 → b ≡ record a { refused = b.refused } →
    OnlyTellsRoom b c → v ≡ record t { journal = v.journal } → c.told.room ≡ p.keeping.wants_room v.keeper → LeadsTelling p (running b t) (running c v) → IsLimit c told due limit →
    65 ≤ room → LeadsToTended p a.times.steady r due s → LeadsToShort p (running a s) told (running b t) → (first : LoopState N C J K H) (past : Past H) → Served p first (state_of (running a r) [] past) → IsReadyToWait a past → ¬ (IsDone Shortening past.calls) → ServesOn a past.journey.world →
    ComesToWait p first past (running c v) limit room
may_wait p a b c r s t v told due limit room before same tells tools want telling is_limit roomy tended shorter first past begun was undone on =
    let asked = tended first [] a past refl begun in
    let since : Past _ = record past { calls = call.Tended due ∷ past.calls } in
    let now = shorter first [] since (not_without Shortening past.calls undone) asked (served_answered p first _ asked).reached in
    let next : Past _ = record past { calls = now.calls } in
    let ready = ready_told b next c tells (ready_still a since b now.calls same now.done (ready_still a past a since.calls refl (tends_more due past.calls) was)) in
    let size : length c.places ≡ 64 = ap (λ (s : Service). length s.places) tells ∙ ap (λ (s : Service). length s.places) same ∙ before in
    let rests : told ≢ Some Long → IsKeptShort p (state_of (running c v) [] next) = λ not. short_told p b c t v next tells tools (now.rests not) in
    let keeper : v.keeper ≡ t.keeper = ap (λ (u : Tools _ _ _ _ _). u.keeper) tools in
    let short : told ≡ Some Short → ¬ (p.keeping.is_long v.keeper) = λ is. subst (λ k. ¬ (p.keeping.is_long k)) (sym keeper) (now.short is) in
    record {
      next = next;
      served = telling first [] next now.served;
      ready = ready;
      may = record {
        due = due;
        tended = now.tended;
        patient = is_patient p c v next told due limit size ready now.sliced rests short is_limit;
        fair = record { places = λ k place here. (let within = slice_get_within c.places k place here in (ready.settled k (omega (arith, size, within))).turned place here); queue = ready.queue };
        prompt = record { idle = ready.calm.idle; crowded = ready.calm.crowded; room = ready.room; tried = ready.calm.tried; reported = ready.reported; serves_on = λ time. on (subst (λ (service : Service). MayEnd service past.journey.world) same (subst (λ (service : Service). MayEnd service past.journey.world) tells time)) };
        heard = refl;
        roomy = roomy;
        short = sliced_or_short told now.sliced rests;
        want_told = want;
      };
      waits_are = now.done.waits;
    }

-- the parts of a round behind its wait, one after the other
pub round_done : (a b c d e : List Call) → DoneAfter a b → DoneAfter b c → DoneAfter c d → DoneAfter d e → DoneAfter a e
round_done a b c d e one two three four = done_then a c e (done_then a b c one two) (done_then c d e three four)

-- where what came with a wait is the same, so is the state behind it
pub waited_on : {N C J K H : Type 0} (p : Promises N C J K H) (first : LoopState N C J K H) (service : Service) (times : Times) (tools : Tools N C J K H) (found : List Ready) (past : Past H) (held held' turn turn' : ℕ) →
    held' ≡ held → turn' ≡ turn → Served p first (state_of (running (record service { times = times; held = held; turn = turn }) tools) found past) →
    Served p first (state_of (running (record service { times = times; held = held'; turn = turn' }) tools) found past)
waited_on p first service times tools found past held held' turn turn' one two served =
    subst (λ (m : ℕ). Served p first (state_of (running (record service { times = times; held = m; turn = turn' }) tools) found past)) (sym one)
    (subst (λ (n : ℕ). Served p first (state_of (running (record service { times = times; held = held; turn = n }) tools) found past)) (sym two) served)

-- there was one wait more
pub one_wait : (past next since later : List Call) → waits_done next ≡ waits_done past → waits_done since ≡ suc (waits_done next) → DoneAfter since later → waits_done later ≡ waits_done past + 1
one_wait past next since later before one done = (let more = done.more.waits in omega (arith, before, one, more))

-- where what is told alone became other, all else is as calm
pub calm_told : (service service' : Service) → OnlyTells service service' → IsCalm service → IsCalm service'
calm_told service service' same calm = rw same (record { idle = calm.idle; crowded = calm.crowded; tried = calm.tried })

-- and there is as much room
pub room_told : (service service' : Service) (world : World) → OnlyTells service service' → IsRoomMadeIn service world → IsRoomMadeIn service' world
room_told service service' world same room = rw same (λ waits. room waits)

-- nobody is to be accepted, or it was tried
pub told_or_not : {P : Type 0} (queue : Queue) → (queue ≡ Told → P) → (queue ≢ Told) ⊎ P
told_or_not Told tried = inr (tried refl)
told_or_not queue tried = inl (λ is. absurd (cc))
