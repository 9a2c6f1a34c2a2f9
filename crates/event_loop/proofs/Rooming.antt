-- Who is right behind a reply, and for how long it is there.
use Rattle.std.proofs.Common.{◌≡◌, ◌≤◌, ◌<◌, ◌+◌, ◌-◌, ◌==◌, ℕ, List, [], ◌∷◌, length, length-take, take, Bool, true, false, Option, Some, refl, sym, ap, subst, ◌∙◌, arith, inl, inr, slice_get, slice_set}
use Rattle.event_loop.proofs.Names.{IsOccupied, Hosting, SeenEdge, InEach, WhereKnown, Place, Service, World, Connection, connection_at, same_Some, below_more, Open, Ended, Leaving, IsStaying, to_offer, untaken, Past, IsGuest, IsOwed, IsSettledAt, IsPlaceAtRest, HadTurn, NeedsNoRead, NeedsNoWrite, IsInService, IsOver}
use Rattle.event_loop.proofs.Names.{AreGuestsBrief, AreWithin, Cause, IsCalm, IsEldest, IsEldestAt, IsTried, NobodyIsSilent, AreAllSettled, GoesSettled, LeadsToSettled, LoopState, Promises, Reached, Ready, Running, Served, Tools, Waits, counts_from, gives_way, makes_room, running, state_of}
use Rattle.event_loop.specs.Places.{broken, ended, leaves, dismissed}
use Rattle.event_loop.specs.declared.place.Stage.{Stage}
use Rattle.std.proofs.lemmas.List.{take-take}
use Rattle.event_loop.proofs.Putting.{set_same}
use Rattle.event_loop.proofs.Answering.{served_answered, staying_taken}
use Rattle.event_loop.proofs.Doing.{done_then}
use Rattle.event_loop.proofs.Leading.{to_then}
use Rattle.event_loop.proofs.Resting.{none_there, some_there}
use Rattle.event_loop.specs.declared.room.Guest.{Guest}
use Rattle.event_loop.specs.declared.room.Guest.TheVariants.{Silent, Answered, Owed}

-- the connection at the place counts as one of those for so many seconds, more than the limit
pub record IsThereFor {H : Type 0} (hosting : Hosting H) (edge : SeenEdge H) (service : Service) (guest : Guest)
    (found : ℕ × Place) (stay : ℕ) : Type 0 where
  pub within : found.0 < 64
  pub here : slice_get service.places found.0 ≡ Some found.1
  pub taken : IsOccupied found.1.stage
  pub holds : WhereKnown hosting edge found.0 (IsGuest guest service.turn found.1)
  pub stay_is : service.times.steady - counts_from guest found.1 ≡ stay
  pub late : service.limits.crowded < stay

-- where the one at the place does, then for at most so many seconds
abbrev pub IsThereWithin : Service → Guest → ℕ → World → ℕ → Type 0
IsThereWithin service guest most world k = (place : Place) → slice_get service.places k ≡ Some place →
    IsGuest guest service.turn place (connection_at world.connections k) → service.times.steady - counts_from guest place ≤ most

-- where it is so at the places below, and at this one, it is so up to there
pub there_more : {H : Type 0} (hosting : Hosting H) (edge : SeenEdge H) (service : Service) (guest : Guest) (k most more : ℕ) (place : Place) → slice_get service.places k ≡ Some place → most ≤ more →
    InEach hosting edge (λ world. (j : ℕ) → j < k → IsThereWithin service guest most world j) →
    WhereKnown hosting edge k (λ connection. IsGuest guest service.turn place connection → service.times.steady - counts_from guest place ≤ more) →
    InEach hosting edge (λ world. (j : ℕ) → j < k + 1 → IsThereWithin service guest more world j)
there_more hosting edge service guest k most more place here le below this journey reached =
    below_more (IsThereWithin service guest more journey.world) k (λ j less other there holds. (let within = below journey reached j less other there holds in omega (arith, within, le)))
    (λ other there holds.
    let same : place ≡ other = same_Some place other (sym here ∙ there) in
    subst (λ (q : Place). service.times.steady - counts_from guest q ≤ more) same
    (this journey reached (subst (λ (q : Place). IsGuest guest service.turn q (connection_at journey.world.connections k)) (sym same) holds)))

pub none_long : (bytes : List ℕ) → length bytes ≡ 0 → bytes ≡ []
none_long [] none = refl
none_long (byte ∷ bytes) none = absurd (omega (arith, none))

-- what is empty has nothing
pub empty_is : (empty : Bool) (bytes : List ℕ) → empty ≡ (length bytes == 0) → empty ≡ true → bytes ≡ []
empty_is empty [] is has_none = refl
empty_is empty (byte ∷ bytes) is has_none = absurd (none_there empty (byte ∷ bytes) is has_none (omega arith))

pub not_empty_is : (empty : Bool) (bytes : List ℕ) → empty ≡ (length bytes == 0) → empty ≡ false → bytes ≡ [] → ⊥
not_empty_is empty [] is has_some none = absurd (let not = sym is ∙ has_some in cc)
not_empty_is empty (byte ∷ bytes) is has_some none = absurd (cc)

-- where there is output, some is owed, and else none
pub some_owed : (empty : Bool) (bytes untaken : List ℕ) → empty ≡ (length bytes == 0) → empty ≡ false → bytes ≡ untaken → 0 < length untaken
some_owed empty bytes untaken is has_some same = subst (λ l. 0 < length l) same (some_there empty bytes is has_some)

pub none_owed : (empty : Bool) (bytes untaken : List ℕ) → empty ≡ (length bytes == 0) → empty ≡ true → bytes ≡ untaken → ¬ (0 < length untaken)
none_owed empty bytes untaken is has_none same some = none_there empty bytes is has_none (subst (λ l. 0 < length l) (sym same) some)

-- one that makes room is there
pub guest_taken : (guest : Guest) (turn : ℕ) (place : Place) (connection : Option Connection) → IsGuest guest turn place connection → IsOccupied place.stage
guest_taken Silent turn place connection taken = taken
guest_taken Answered turn place connection behind = behind.taken
guest_taken Owed turn place connection owed = staying_taken place.stage owed.stays

-- who counts as owed for longest came first of those that are
pub owed_eldest : {H : Type 0} (hosting : Hosting H) (edge : SeenEdge H) (service : Service) (x : ℕ × Place) → IsEldestAt hosting edge Owed service x →
    InEach hosting edge (λ world. IsEldest IsOwed service.places world.connections x.0 x.1)
owed_eldest hosting edge service x found journey reached = record { holds = found.holds journey reached; eldest = found.eldest journey reached }

-- who counts for longest as silent, or as right behind a reply, is closed for that
pub guest_leaves : {N C J K H : Type 0} (p : Promises N C J K H) (guest : Guest) (service : Service) (tools : Tools N C J K H) (k : ℕ) (place : Place) (ready : List Ready) (past : Past H) → (guest ≡ Owed → ⊥) → service.queue ≡ Waits →
    IsEldestAt p.hosting tools.edge guest service (k, place) → Reached p.hosting tools.edge past.journey → Cause (state_of (running service tools) ready past) k place
guest_leaves p Silent service tools k place ready past not waits found reached = gives_way waits found.late (found.eldest past.journey reached)
guest_leaves p Answered service tools k place ready past not waits found reached =
    makes_room waits found.late (record { holds = found.holds past.journey reached; eldest = found.eldest past.journey reached })
guest_leaves p Owed service tools k place ready past not waits found reached = absurd (not refl)

-- where nobody is silent for longer than others may wait, it is calm, also where nothing changed since then
pub calm_made : {H : Type 0} (hosting : Hosting H) (edge edge' : SeenEdge H) (a b : Service) (past : Past H) → (b.queue ≡ Waits → (b ≡ a) × (edge' ≡ edge)) →
    (a.queue ≡ Waits → InEach hosting edge (AreGuestsBrief Silent a)) → Reached hosting edge past.journey → NobodyIsSilent b → IsTried b → IsCalm b
calm_made hosting edge edge' a b past still brief reached idle tried = record {
  idle = idle;
  crowded = λ waits.
      let same = (still waits).0 in
      subst (λ (s : Service). AreWithin s.limits.crowded s.times s.places) (sym same) (brief (subst (λ (s : Service). s.queue ≡ Waits) same waits) past.journey reached);
  tried = tried;
}

-- all is settled once silent ones were closed, others gave way, and one was heard out; and it was calm before that
pub record GoesCalm {N C J K H : Type 0} (p : Promises N C J K H) (first : LoopState N C J K H) (past : Past H) (mid : Service) (after : Running N C J K H) : Type 0 where
  pub goes : GoesSettled p first [] past after
  pub calm : IsCalm mid

pub calm_then : {N C J K H : Type 0} (p : Promises N C J K H) (a b c d e : Service) (s t u v w : Tools N C J K H) (first : LoopState N C J K H) (past : Past H) →
    LeadsToSettled p [] (running a s) [] (running b t) → LeadsToSettled p [] (running b t) [] (running c u) → LeadsToSettled p [] (running c u) [] (running d v) → LeadsToSettled p [] (running d v) [] (running e w) →
    (d.queue ≡ Waits → (d ≡ c) × (v.edge ≡ u.edge)) → (c.queue ≡ Waits → InEach p.hosting u.edge (AreGuestsBrief Silent c)) → NobodyIsSilent d → IsTried d →
    Served p first (state_of (running a s) [] past) → AreAllSettled a past → GoesCalm p first past d (running e w)
calm_then p a b c d e s t u v w first past one two three four still brief idle tried served settled =
    let x = to_then p [] [] [] a b c s t u one two first past served settled in
    let y = to_then p [] [] [] c d e u v w three four first x.next x.served x.settled in
    record {
      goes = record { next = y.next; served = y.served; settled = y.settled; done = done_then past.calls x.next.calls y.next.calls x.done y.done };
      calm = calm_made p.hosting u.edge v.edge c d x.next still brief (served_answered p first _ x.served).reached idle tried;
    }

-- of what stays all is offered
pub offers_all : (stage : Stage) (bytes : List ℕ) → IsStaying stage → to_offer stage bytes ≡ bytes
offers_all Open bytes stays = refl
offers_all Ended bytes stays = refl
offers_all stage bytes stays = absurd stays

-- a front of what is offered is one of all
pub front_offered : (stage : Stage) (bytes : List ℕ) (count : ℕ) → count ≤ length (to_offer stage bytes) → take count (to_offer stage bytes) ≡ take count bytes
front_offered (Leaving left) bytes count within =
    let size = length-take left bytes in
    let le : count ≤ left = grind (arith, size, within) in
    take-take count left bytes le
front_offered stage bytes count within = refl

staying_served : (stage : Stage) → IsStaying stage → IsInService stage
staying_served Open stays = tt
staying_served Ended stays = tt
staying_served stage stays = absurd stays

-- where one that is owed replies is chosen to make room, and is taking one, its place is settled still
pub leaves_settled : {H : Type 0} (k left now : ℕ) (service : Service) (place : Place) (past : Past H) → slice_get service.places k ≡ Some place → IsOwed place (connection_at past.journey.world.connections k) → 0 < left →
    IsSettledAt k service past → IsSettledAt k (record service { places = slice_set service.places k (record place { stage = Leaving left; came = now }) }) past
leaves_settled k left now service place past here owed some was = record {
  rested = λ none other there. stays other there (record {
    unread = unread;
    unwritten = unwritten (was.rested none place here).unwritten;
    goes_on = goes_on;
  });
  turned = λ other there. subst (λ (q : Place). HadTurn k q (connection_at past.journey.world.connections k) past.calls) (sym (is other there)) (record {
    read = inl unread;
    written = elim (was.turned place here).written [ inl not ↦ inl (unwritten not) | inr done ↦ inr done ];
    goes_on = goes_on;
  });
  active = was.active;
}
  where
    place' : Place
    place' = record place { stage = Leaving left; came = now }

    is : (other : Place) → slice_get (slice_set service.places k place') k ≡ Some other → other ≡ place'
    is other there = set_same service.places k place' other there

    stays : (other : Place) → slice_get (slice_set service.places k place') k ≡ Some other → IsPlaceAtRest place' (connection_at past.journey.world.connections k) →
        IsPlaceAtRest other (connection_at past.journey.world.connections k)
    stays other there rests = subst (λ (q : Place). IsPlaceAtRest q (connection_at past.journey.world.connections k)) (sym (is other there)) rests

    unread : NeedsNoRead place' (connection_at past.journey.world.connections k)
    unread readable may = let not = may.is_open in absurd (cc)

    unwritten : NeedsNoWrite place (connection_at past.journey.world.connections k) → NeedsNoWrite place' (connection_at past.journey.world.connections k)
    unwritten not writable may = not writable (record {
      served = staying_served place.stage owed.stays;
      some_left = subst (λ l. 0 < length l) (sym (offers_all place.stage (untaken (connection_at past.journey.world.connections k)) owed.stays)) owed.some_left;
    })

    goes_on : IsOver place' (connection_at past.journey.world.connections k) → ⊥
    goes_on (broken fault not) = absurd (cc)
    goes_on (ended not none) = absurd (cc)
    goes_on (leaves more is_leaving none) =
        let same : left ≡ more = cc in
        let size = ap length none in
        let taken = length-take more (untaken (connection_at past.journey.world.connections k)) in
        let owes = owed.some_left in
        grind (arith, same, size, taken, owes, some)
    goes_on (dismissed not closing none) = absurd (cc)
