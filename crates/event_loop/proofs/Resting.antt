-- Where nothing is to be done.
use Rattle.std.proofs.Common.{◌≡◌, ◌≢◌, inl, inr, ◌<◌, ℕ, suc, List, [], Bool, true, false, Option, Some, length, refl, sym, ap, subst, ◌∙◌, arith, ◌-◌, ◌==◌, slice_get, slice_set}
use Rattle.event_loop.proofs.Names.{Times, Place, IsOccupied, IsInService, MayRead, MayWrite, NeedsNoRead, IsOver, IsPlaceAtRest, same_Some, eqb_tells, nat_tests, World, Connection, connection_at}
use Rattle.event_loop.proofs.Names.{untaken, is_closing, false≢true, Promises, LoopState, Free, Service, Ready, Tools, Call, Reading, Writing, done_since, fresh_place, HadTurn, Served, Past, Duty}
use Rattle.event_loop.proofs.Names.{IsToldAs, DoneMore, DoneAfter, HoldsAt, IsHeardAt, IsSettledAt, AreAllSettled, StaysIdle, IsWorkLeft, a_read, a_write, IsLeftAt, LeavesOthers, IsRestedAt, IsRested}
use Rattle.event_loop.proofs.Names.{to_offer, TidiesAt, running, standing, state_of, to_write}
use Rattle.event_loop.specs.declared.place.Stage.{Stage}
use Rattle.event_loop.proofs.Putting.{set_other, set_same}
use Rattle.event_loop.proofs.Doing.{none_more}

-- what is not empty has some
pub some_there : (empty : Bool) (bytes : List ℕ) → empty ≡ (length bytes == 0) → empty ≡ false → 0 < length bytes
some_there empty bytes is not = grind (arith, nat_tests, is, not)

pub none_there : (empty : Bool) (bytes : List ℕ) → empty ≡ (length bytes == 0) → empty ≡ true → ¬ (0 < length bytes)
none_there empty bytes is has_none some = grind (arith, nat_tests, is, has_none, some)

-- what the edge tells of a connection
pub told_as : (stage : Stage) (output : ℕ) (closing : Bool) (bytes offer : List ℕ) (connection : Option Connection) → output ≡ length offer → offer ≡ to_offer stage bytes → bytes ≡ untaken connection →
    closing ≡ is_closing connection → IsToldAs stage output closing connection
told_as stage output closing bytes offer connection size offers is_output closes = (sym (size ∙ ap length (offers ∙ ap (to_offer stage) is_output)), sym closes)

-- at a free place nothing is to be done
pub free_rests : (p : Place) (o : Option Connection) → p.stage ≡ Free → IsPlaceAtRest p o
free_rests p o free = record {
  unread = λ r (may : MayRead p o). let open_is = may.is_open in absurd (cc);
  unwritten = λ w (may : MayWrite p o). absurd (subst IsInService free may.served);
  goes_on = λ over. grind (arith, free, over);
}

-- nor for a connection that just came
pub fresh_rests : (now : ℕ) (k : Connection) → untaken (Some k) ≡ [] → is_closing (Some k) ≡ false → IsPlaceAtRest (fresh_place now) (Some k)
fresh_rests now k none stays = record {
  unread = λ r may. absurd (false≢true r);
  unwritten = λ w (may : MayWrite (fresh_place now) (Some k)). (let some = may.some_left in let size = ap length none in absurd (omega (arith, some, size)));
  goes_on = λ over. grind (arith, stays, over);
}

-- where nothing changed, it holds still
pub still_holds : (duty : Duty) (k : ℕ) (b c : Service) (v u : World) (P : Place → Option Connection → Type 0) → StaysIdle duty b v c u → HoldsAt k b v P → HoldsAt k c u P
still_holds duty k b c v u P still holds = subst (λ s. HoldsAt k s u P) (sym still.service_is) (subst (λ w. HoldsAt k b w P) (sym still.world_is) holds)

-- what rests needs no turn
pub rests_turned : (k : ℕ) (place : Place) (o : Option Connection) (calls : List Call) → IsPlaceAtRest place o → HadTurn k place o calls
rests_turned k place o calls rests = record { read = inl rests.unread; written = inl rests.unwritten; goes_on = rests.goes_on }

-- what had its turn, had it
turned_then : (k : ℕ) (place : Place) (o : Option Connection) (earlier later : List Call) → DoneMore earlier later → HadTurn k place o earlier → HadTurn k place o later
turned_then k place o earlier later done turn = record {
  read = elim turn.read [
    | inl unread ↦ inl unread
    | inr tended ↦ elim tended [ inl read ↦ inr (inl (done.keeps (Reading k) read)) | inr written ↦ inr (inr (done.keeps (Writing k) written)) ]
  ];
  written = elim turn.written [ inl unwritten ↦ inl unwritten | inr written ↦ inr (done.keeps (Writing k) written) ];
  goes_on = turn.goes_on;
}

-- what is done at one place leaves another at rest
pub rested_other : (k j : ℕ) (service : Service) (world : World) (service' : Service) (world' : World) → LeavesOthers k service world service' world' → j ≢ k →
    IsRestedAt j service world → IsRestedAt j service' world'
rested_other k j service world service' world' others other rested none place here =
    subst (λ o. IsPlaceAtRest place o) (sym (others.connections j other)) (rested (sym (others.due j other) ∙ none) place (sym (others.places j other) ∙ here))

pub others_then : (k : ℕ) (a : Service) (w : World) (b : Service) (v : World) (c : Service) (u : World) → LeavesOthers k a w b v → LeavesOthers k b v c u → LeavesOthers k a w c u
others_then k a w b v c u one two = record {
  places = λ j other. two.places j other ∙ one.places j other;
  due = λ j other. two.due j other ∙ one.due j other;
  connections = λ j other. two.connections j other ∙ one.connections j other;
}

-- where neither a read nor a write was to be done and nothing changed, none is left
pub none_left : (k : ℕ) (b c : Service) (v u : World) → HoldsAt k b v NeedsNoRead → StaysIdle (to_write k) b v c u → IsLeftAt k c u → ⊥
none_left k b c v u unread unwritten left =
    let here : slice_get b.places k ≡ Some left.place = subst (λ (s : Service). slice_get s.places k ≡ Some left.place) unwritten.service_is left.here in
    let still : IsWorkLeft left.place (connection_at v.connections k) = subst (λ (x : World). IsWorkLeft left.place (connection_at x.connections k)) unwritten.world_is left.left in
    not_left still here
  where
    not_left : IsWorkLeft left.place (connection_at v.connections k) → slice_get b.places k ≡ Some left.place → ⊥
    not_left (a_write writable may) here = unwritten.rests left.place here writable may
    not_left (a_read readable may) here = unread left.place here readable may

-- what was heard at another place is
pub heard_other : {H : Type 0} (k j : ℕ) (service : Service) (past : Past H) (service' : Service) (past' : Past H) → LeavesOthers k service past.journey.world service' past'.journey.world → DoneAfter past.calls past'.calls →
    j ≢ k → IsHeardAt j service past → IsHeardAt j service' past'
heard_other k j service past service' past' others done other (inl unread) =
    inl (λ place here. subst (λ o. NeedsNoRead place o) (sym (others.connections j other)) (unread place (sym (others.places j other) ∙ here)))
heard_other k j service past service' past' others done other (inr read) = inr (done.more.keeps (Reading j) read)

-- and what was settled there
settled_more : {H : Type 0} (k j : ℕ) (service : Service) (past : Past H) (service' : Service) (past' : Past H) → LeavesOthers k service past.journey.world service' past'.journey.world → DoneMore past.calls past'.calls →
    j ≢ k → IsSettledAt j service past → IsSettledAt j service' past'
settled_more k j service past service' past' others done other settled = record {
  rested = rested_other k j service past.journey.world service' past'.journey.world others other settled.rested;
  turned = λ place here.
      turned_then j place (connection_at past'.journey.world.connections j) past.calls past'.calls done
      (subst (λ o. HadTurn j place o past.calls) (sym (others.connections j other)) (settled.turned place (sym (others.places j other) ∙ here)));
  active = λ e. (let some = settled.active (sym (others.due j other) ∙ e) in omega (arith, some, done.grows));
}

pub settled_other : {H : Type 0} (k j : ℕ) (service : Service) (past : Past H) (service' : Service) (past' : Past H) → LeavesOthers k service past.journey.world service' past'.journey.world → DoneAfter past.calls past'.calls →
    j ≢ k → IsSettledAt j service past → IsSettledAt j service' past'
settled_other k j service past service' past' others done other settled = settled_more k j service past service' past' others done.more other settled

-- keeping leaves all places as they are
pub others_kept : (j : ℕ) (service : Service) (world world' : World) → world'.connections ≡ world.connections → LeavesOthers (suc j) service world service world'
others_kept j service world world' same = record { places = λ i other. refl; due = λ i other. refl; connections = λ i other. ap (λ ks. connection_at ks i) same }

-- where one place is settled and the others are, all are
pub all_settled : {H : Type 0} (k : ℕ) (service : Service) (past : Past H) (service' : Service) (past' : Past H) → LeavesOthers k service past.journey.world service' past'.journey.world → DoneAfter past.calls past'.calls →
    AreAllSettled service past → IsSettledAt k service' past' → AreAllSettled service' past'
all_settled k service past service' past' others done settled here j less =
    elim (eqb_tells j k) [
      | inl is ↦ subst (λ i. IsSettledAt i service' past') (sym is.1) here
      | inr is ↦ settled_other k j service past service' past' others done is.1 (settled j less)
    ]

-- where more was done and no place changed, they are as settled
pub settled_still : {H : Type 0} (service : Service) (past : Past H) (service' : Service) (past' : Past H) → service'.places ≡ service.places → service'.due ≡ service.due → past'.journey.world ≡ past.journey.world →
    DoneMore past.calls past'.calls → AreAllSettled service past → AreAllSettled service' past'
settled_still service past service' past' places due world done settled j less =
    settled_more (suc j) j service past service' past'
    (record { places = λ i other. ap (λ l. slice_get l i) places; due = λ i other. ap (λ l. slice_get l i) due; connections = λ i other. ap (λ (w : World). connection_at w.connections i) world }) done
    (λ is. absurd (omega (arith, is))) (settled j less)

pub settled_then : {H : Type 0} (service : Service) (past : Past H) (service' : Service) (past' : Past H) → service'.places ≡ service.places → service'.due ≡ service.due → past'.journey.world ≡ past.journey.world →
    DoneAfter past.calls past'.calls → AreAllSettled service past → AreAllSettled service' past'
settled_then service past service' past' places due world done settled = settled_still service past service' past' places due world done.more settled

-- a place was put among others
pub put_others : (k : ℕ) (service service' : Service) (place : Place) (world world' : World) → service'.places ≡ slice_set service.places k place →
    ((j : ℕ) → j ≢ k → slice_get service'.due j ≡ slice_get service.due j) → ((j : ℕ) → j ≢ k → connection_at world'.connections j ≡ connection_at world.connections j) →
    LeavesOthers k service world service' world'
put_others k service service' place world world' put due same = record {
  places = λ j other. ap (λ places. slice_get places j) put ∙ set_other service.places k j place other;
  due = due;
  connections = same;
}

-- what was put at rest is at rest
put_at_rest : (k : ℕ) (service service' : Service) (place : Place) (world' : World) → service'.places ≡ slice_set service.places k place →
    IsPlaceAtRest place (connection_at world'.connections k) → (place' : Place) → slice_get service'.places k ≡ Some place' → IsPlaceAtRest place' (connection_at world'.connections k)
put_at_rest k service service' place world' put rests place' here =
    let is : place' ≡ place = set_same service.places k place place' (ap (λ places. slice_get places k) (sym put) ∙ here) in
    subst (λ q. IsPlaceAtRest q (connection_at world'.connections k)) (sym is) rests

pub put_settled : {H : Type 0} (k : ℕ) (service service' : Service) (place : Place) (past' : Past H) → service'.places ≡ slice_set service.places k place →
    IsPlaceAtRest place (connection_at past'.journey.world.connections k) → (slice_get service'.due k ≡ Some true → 0 < done_since past'.calls) → IsSettledAt k service' past'
put_settled k service service' place past' put rests active = record {
  rested = λ none place' here. put_at_rest k service service' place past'.journey.world put rests place' here;
  turned = λ place' here. rests_turned k place' _ past'.calls (put_at_rest k service service' place past'.journey.world put rests place' here);
  active = active;
}

-- a connection that is not over stays, and it is noted whether something is due there
pub stays_tidy : {N C J K H : Type 0} (p : Promises N C J K H) (first : LoopState N C J K H) (found : List Ready) (k : ℕ) (service : Service) (tools : Tools N C J K H) (past : Past H) (place : Place) (due : List Bool) →
    slice_get service.places k ≡ Some place → ¬ (IsOver place (connection_at past.journey.world.connections k)) → ((j : ℕ) → j ≢ k → slice_get due j ≡ slice_get service.due j) →
    (slice_get due k ≡ Some false → IsPlaceAtRest place (connection_at past.journey.world.connections k)) → (slice_get due k ≡ Some true → IsWorkLeft place (connection_at past.journey.world.connections k)) →
    Served p first (state_of (running service tools) found past) → TidiesAt p first k (standing (running service tools) found past) (running (record service { due = due }) tools)
stays_tidy p first found k service tools past place due here goes_on others rests left h = record {
  goes = record {
    on = record { next = past; served = h; done = none_more past.calls; within = λ was. was };
    others = record { places = λ j other. refl; due = others; connections = λ j other. refl };
    alone = λ other differs not. not;
    ready = λ was. was;
  };
  rested = λ none place' here'. subst (λ q. IsPlaceAtRest q (connection_at past.journey.world.connections k)) (same_Some place place' (sym here ∙ here')) (rests none);
  turned = λ unread unwritten place' here'. record {
    read = elim unread [ inl none ↦ inl (none place' here') | inr tended ↦ inr tended ];
    written = elim unwritten [ inl none ↦ inl (none place' here') | inr done ↦ inr done ];
    goes_on = subst (λ q. ¬ (IsOver q (connection_at past.journey.world.connections k))) (same_Some place place' (sym here ∙ here')) goes_on;
  };
  left = λ e. record { place = place; here = here; left = left e };
}

-- what was put there is no other
pub not_due : (due : List Bool) (k : ℕ) → slice_get (slice_set due k false) k ≡ Some true → ⊥
not_due due k e = false≢true (sym (set_same due k false true e))

pub not_rested : (due : List Bool) (k : ℕ) → slice_get (slice_set due k true) k ≡ Some false → ⊥
not_rested due k e = false≢true (set_same due k true false e)

-- where a place was found ready, something may be due there, and the others rest as they did
pub told_rested : (k : ℕ) (service service' : Service) (world : World) (place : Place) → service'.places ≡ slice_set service.places k place → service'.due ≡ slice_set service.due k true →
    IsRested service world → IsRested service' world
told_rested k service service' world place places due rested j less =
    elim (eqb_tells j k) [
      | inl is ↦ λ none. absurd (not_rested service.due k (subst (λ i. slice_get (slice_set service.due k true) i ≡ Some false) is.1 (ap (λ l. slice_get l j) (sym due) ∙ none)))
      | inr is ↦ rested_other k j service world service' world (put_others k service service' place world world places (λ i other. ap (λ l. slice_get l i) due ∙ set_other service.due k i true other) (λ i other. refl)) is.1 (rested j less)
    ]
