-- How each part of the loop leads on. Only the contracts of its parts and their proofs cite this: no public clause does.
use Rattle.std.specs.Prelude.{◌≡◌, ◌≢◌, ◌⊎◌, ◌≤◌, ◌<◌, ◌+◌, ◌-◌, ℕ, Bool, true, false, List, [], ◌∷◌, Option, Some, length, slice_get, slice_set, None, ⊤}
use Rattle.event_loop.specs.Names.{Hosting, World, connection_at, untaken, SeenEdge, Journey, Reached, LoopFault, Barred, Ready, Stage}
use Rattle.event_loop.specs.declared.due.Due.{Due}
use Rattle.event_loop.specs.declared.due.Due.TheVariants.{Work, Rest}
use Rattle.event_loop.specs.declared.place.Place.{Place}
use Rattle.event_loop.specs.declared.room.Guest.{Guest}
use Rattle.event_loop.specs.declared.room.Guest.TheVariants.{Silent, Owed}
use Rattle.outside.specs.declared.report.Report.{Report}
use Rattle.event_loop.specs.declared.service.Service.{Service}
use Rattle.event_loop.specs.declared.tools.Tools.{Tools}
use Rattle.outside.specs.Calls as call
use Rattle.outside.specs.Calls.{Call, CallKind, Reading, Looking, Keeping, Writing, Accepting, Shortening, IsConfirmed, IsDone, waits, done_since, told_since}
use Rattle.event_loop.specs.Asking.{milliseconds, rest_limit}
use Rattle.change_codec.specs.declared.keeper.Length.{Length}
use Rattle.change_codec.specs.declared.keeper.Length.TheVariants.{Short, Long}
use Rattle.event_loop.specs.Noting.{Noted}
use Rattle.event_loop.specs.Places.{MayWrite, NeedsNoRead, NeedsNoWrite, IsOver, IsPlaceAtRest}
use Rattle.event_loop.specs.LoopStates.{Promises, LoopState}
use Rattle.event_loop.specs.Closing.{IsRoomMade, Closes, freed_queue, AreBetween, IsTimeToReload, Passes}
use Rattle.event_loop.specs.Reporting.{Tells}
use Rattle.event_loop.specs.Served.{HadTurn, IsKeptShort, Served, Shuts, TellsLast}
use Rattle.event_loop.specs.Ends.{CannotGoOn}
use Rattle.telling.specs.Audience.{Audience, IsAllTold}
-- what clauses of parts name
pub use Rattle.change_codec.specs.Keepers.{keeping}
pub use Rattle.event_loop.specs.Names.{AreLeftOfReply, Connection, InEach, is_closing, piece_of, Free, Open, Empty, Told, Waits}
pub use Rattle.event_loop.specs.declared.due.Due.TheVariants.{Close}
pub use Rattle.event_loop.specs.declared.room.Guest.TheVariants.{Answered, Owed}
pub use Rattle.event_loop.specs.Places.{IsOccupied, IsInService, IsOneLeaving, IsStaying, to_offer, taken_stage, IsFreeAt, AllFree, AllTaken, MayRead, is_taken, open_count}
pub use Rattle.event_loop.specs.Closing.{AreWithin, IsBehindReply, IsOwed, IsBetween, asked_since}
pub use Rattle.event_loop.specs.Reading.{read_place}
pub use Rattle.event_loop.specs.Reporting.{TellsRefusal, is_long_ago}
pub use Rattle.event_loop.specs.Served.{told_place}
pub use Rattle.event_loop.specs.LoopStates.{IsAllKept, IsUnkept, promises}

-- it holds of the connection, wherever the edge was reached
abbrev pub WhereKnown : {H : Type 0} → Hosting H → SeenEdge H → ℕ → (Option Connection → Type 0) → Type 0
WhereKnown hosting edge k P = InEach hosting edge (λ world. P (connection_at world.connections k))

-- a journal, and in which second a fault was noted there last
abbrev pub noted_in : {J : Type 0} → J → Option ℕ → Noted J
noted_in journal last = record { journal = journal; last = last }

-- the loop as it runs: what it knows, and what it works with
pub record Running (N C J K H : Type 0) : Type 0 where
  pub service : Service
  pub tools : Tools N C J K H

abbrev pub running : {N C J K H : Type 0} → Service → Tools N C J K H → Running N C J K H
running service tools = record { service = service; tools = tools }

-- what was done so far, and the journey of its edge
pub record Past (H : Type 0) : Type 0 where
  pub calls : List Call
  pub journey : Journey H

-- where the loop stands: as it runs, with what the last wait found and was not looked at yet, and with what was done so far
pub record Standing (N C J K H : Type 0) : Type 0 where
  pub now : Running N C J K H
  pub found : List Ready
  pub past : Past H

abbrev pub standing : {N C J K H : Type 0} → Running N C J K H → List Ready → Past H → Standing N C J K H
standing now found past = record { now = now; found = found; past = past }

abbrev pub state_of : {N C J K H : Type 0} → Running N C J K H → List Ready → Past H → LoopState N C J K H
state_of now found past = record {
  sockets = now.tools.sockets;
  clocks = now.tools.clocks;
  noted = noted_in now.tools.journal now.service.noted;
  keeper = now.tools.keeper;
  progress = record { edge = now.tools.edge; generator = now.tools.generator; audience = now.tools.tellings; journey = past.journey };
  limits = now.service.limits;
  places = now.service.places;
  found = found;
  queue = now.service.queue;
  times = now.service.times;
  held = now.service.held;
  told = now.service.told;
  refused = now.service.refused;
  reload = now.service.reload;
  began = now.service.began;
  accepted = now.service.accepted;
  turn = now.service.turn;
  calls = past.calls;
}

-- what was done so far at a state
abbrev pub past_of : {N C J K H : Type 0} → LoopState N C J K H → Past H
past_of s = record { calls = s.calls; journey = s.progress.journey }

-- something may be due at some place
pub record IsDueSomewhere (service : Service) : Type 0 where
  pub k : ℕ
  pub within : k < 64
  pub here : slice_get service.due k ≡ Some true

-- nothing is due at any place
abbrev pub IsDueNowhere : Service → Type 0
IsDueNowhere service = (k : ℕ) → k < 64 → slice_get service.due k ≡ Some false

-- nor is at any place from one on
abbrev pub IsDueNowhereFrom : ℕ → Service → Type 0
IsDueNowhereFrom i service = (k : ℕ) → i ≤ k → k < 64 → slice_get service.due k ≡ Some false

-- something is noted to be due
abbrev pub IsBusy : Service → Type 0
IsBusy service = IsDueSomewhere service ⊎ (service.queue ≡ Told)

-- nothing is noted to be due
pub record MayRest (service : Service) : Type 0 where
  pub due : IsDueNowhere service
  pub queue : service.queue ≢ Told

-- no connection is there, no accept is to be tried again, and no reports are wanted
pub record MaySleep (service : Service) : Type 0 where
  pub free : AllFree service.places
  pub unbarred : (since : ℕ) → service.queue ≢ Barred since
  pub unwanted : service.limits.report ≡ None

-- how long it waits by what is noted, by when the keeper wants to be called again, and by what it told, if it was called to shorten what it keeps
pub data IsLimit (service : Service) (told : Option Length) (due : Option ℕ) : Option ℕ → Type 0 where
  looks : IsBusy service → IsLimit service told due (Some 0)
  shortens : told ≡ Some Long → IsLimit service told due (Some 0)
  rests : MayRest service → told ≢ Some Long → IsLimit service told due (Some (rest_limit due (milliseconds service.times.steady)))
  sleeps : MayRest service → MaySleep service → told ≡ Some Short → due ≡ None → IsLimit service told due None

-- as the clocks told last, a connection at the place is not silent for too long
abbrev pub IsInTime : Service → ℕ → Type 0
IsInTime service k = (place : Place) → slice_get service.places k ≡ Some place → IsOccupied place.stage → service.times.steady - place.since ≤ service.limits.idle

-- nobody is
abbrev pub NobodyIsSilent : Service → Type 0
NobodyIsSilent service = AreWithin service.limits.idle service.times service.places

-- calls were made after others, none of them a wait
pub record DoneMore (earlier later : List Call) : Type 0 where
  pub waits : waits later ≡ waits earlier
  pub grows : done_since earlier ≤ done_since later
  pub keeps : (kind : CallKind) → IsDone kind earlier → IsDone kind later

-- and none of them for a slice
pub record DoneAfter (earlier later : List Call) : Type 0 where
  pub more : DoneMore earlier later
  pub alone : IsDone Shortening later → IsDone Shortening earlier

-- which connections make room: all, as they take no byte of a reply, or those right behind one, or those that are owed some
abbrev pub IsGuest : Guest → ℕ → Place → Option Connection → Type 0
IsGuest Silent turn = λ place connection. IsOccupied place.stage
IsGuest Answered turn = IsBehindReply turn
IsGuest Owed turn = IsOwed

-- since when one counts as one of those: since it took the last bytes, or since it came
abbrev pub counts_from : Guest → Place → ℕ
counts_from Silent place = place.since
counts_from guest place = place.came

-- none of those does for longer than the limit
abbrev pub AreGuestsBrief : Guest → Service → World → Type 0
AreGuestsBrief guest service world = (k : ℕ) (place : Place) → slice_get service.places k ≡ Some place →
    IsGuest guest service.turn place (connection_at world.connections k) → service.times.steady - counts_from guest place ≤ service.limits.crowded

-- where another connection waits, there is room for it, as far as there may be
abbrev pub IsRoomMadeIn : Service → World → Type 0
IsRoomMadeIn service world = service.queue ≡ Waits → IsRoomMade service.turn service.limits.crowded service.times service.places world.connections

-- the connection at the place counts as one of them for longer than the limit, and none of them does for longer
pub record IsEldestAt {H : Type 0} (hosting : Hosting H) (edge : SeenEdge H) (guest : Guest) (service : Service) (found : ℕ × Place) : Type 0 where
  pub within : found.0 < 64
  pub here : slice_get service.places found.0 ≡ Some found.1
  pub taken : IsOccupied found.1.stage
  pub late : service.limits.crowded < service.times.steady - counts_from guest found.1
  pub holds : WhereKnown hosting edge found.0 (IsGuest guest service.turn found.1)
  pub eldest : InEach hosting edge (λ world. (j : ℕ) (other : Place) → slice_get service.places j ≡ Some other →
      IsGuest guest service.turn other (connection_at world.connections j) → counts_from guest found.1 ≤ counts_from guest other)

-- the other places are as they were, and so are their connections
pub record LeavesOthers (k : ℕ) (service : Service) (world : World) (service' : Service) (world' : World) : Type 0 where
  pub places : (j : ℕ) → j ≢ k → slice_get service'.places j ≡ slice_get service.places j
  pub due : (j : ℕ) → j ≢ k → slice_get service'.due j ≡ slice_get service.due j
  pub connections : (j : ℕ) → j ≢ k → connection_at world'.connections j ≡ connection_at world.connections j

-- nothing is unkept, all that was told was handed on, and the keeper was asked whether nobody else had begun
pub record IsWritable {H : Type 0} (past : Past H) (audience : Audience) : Type 0 where
  pub kept : IsAllKept past.journey.world
  pub told : IsAllTold audience
  pub confirmed : IsConfirmed past.calls

-- what must be so that a call of the kind is made: for a write that
abbrev pub IsReadyFor : {H : Type 0} → CallKind → Past H → Audience → Type 0
IsReadyFor (Writing k) past audience = IsWritable past audience
IsReadyFor kind past audience = ⊤

-- a kind of call that may be to be made at a place, and when it needs not be made
pub record Duty : Type 1 where
  pub k : ℕ
  pub kind : CallKind
  pub rests : Place → Option Connection → Type 0

abbrev pub to_read : ℕ → Duty
to_read k = record { k = k; kind = Reading k; rests = NeedsNoRead }

abbrev pub to_write : ℕ → Duty
to_write k = record { k = k; kind = Writing k; rests = NeedsNoWrite }

-- it holds of what is known of the place, and of its connection
abbrev pub HoldsAt : ℕ → Service → World → (Place → Option Connection → Type 0) → Type 0
HoldsAt k service world P = (place : Place) → slice_get service.places k ≡ Some place → P place (connection_at world.connections k)

-- nothing changed, since nothing is to be done
pub record StaysIdle (duty : Duty) (service : Service) (world : World) (service' : Service) (world' : World) : Type 0 where
  pub service_is : service' ≡ service
  pub world_is : world' ≡ world
  pub rests : HoldsAt duty.k service world duty.rests

-- a read or a write is to be done
pub data IsWorkLeft (place : Place) (connection : Option Connection) : Type 0 where
  a_read : place.readable ≡ true → MayRead place connection → IsWorkLeft place connection
  a_write : place.writable ≡ true → MayWrite place connection → IsWorkLeft place connection

-- so much of the connection's output is to be written, and whether it was answered the 400 of a faulty head, as the edge tells
abbrev pub IsToldAs : Stage → ℕ → Bool → Option Connection → Type 0
IsToldAs stage output closing connection = (length (to_offer stage (untaken connection)) ≡ output) × (is_closing connection ≡ closing)

-- what is due for the connection at a place
abbrev pub IsDueFor : Place → Due → Option Connection → Type 0
IsDueFor place Close connection = IsOver place connection
IsDueFor place Work connection = IsWorkLeft place connection × ¬ (IsOver place connection)
IsDueFor place Rest connection = IsPlaceAtRest place connection

-- a read or a write is to be done at the place
pub record IsLeftAt (k : ℕ) (service : Service) (world : World) : Type 0 where
  pub place : Place
  pub here : slice_get service.places k ≡ Some place
  pub left : IsWorkLeft place (connection_at world.connections k)

-- where nothing is noted to be due, nothing is to be done at the place
abbrev pub IsRestedAt : ℕ → Service → World → Type 0
IsRestedAt k service world = slice_get service.due k ≡ Some false → HoldsAt k service world IsPlaceAtRest

-- no read is to be done at the place, or one was done since the last wait
abbrev pub IsHeardAt : {H : Type 0} → ℕ → Service → Past H → Type 0
IsHeardAt k service past = HoldsAt k service past.journey.world NeedsNoRead ⊎ IsDone (Reading k) past.calls

-- whether the place was read since the last wait is noted
pub record IsHeardAs {H : Type 0} (j : ℕ) (service : Service) (past : Past H) : Type 0 where
  pub unread : slice_get service.heard j ≡ Some false → ¬ (IsDone (Reading j) past.calls)
  pub read : slice_get service.heard j ≡ Some true → IsDone (Reading j) past.calls

-- so it is at each place, none was written to since then, and nothing was kept
pub record IsHearing {H : Type 0} (service : Service) (past : Past H) : Type 0 where
  pub heard_are : (j : ℕ) → j < 64 → IsHeardAs j service past
  pub unwritten : (j : ℕ) → ¬ (IsDone (Writing j) past.calls)
  pub not_kept : ¬ (IsDone Keeping past.calls)

-- the place had its turn, and where nothing is noted to be due, nothing is to be done there, and else something was done
pub record IsSettledAt {H : Type 0} (k : ℕ) (service : Service) (past : Past H) : Type 0 where
  pub rested : IsRestedAt k service past.journey.world
  pub turned : HoldsAt k service past.journey.world (λ place connection. HadTurn k place connection past.calls)
  pub active : slice_get service.due k ≡ Some true → 0 < done_since past.calls

-- where a connection is closed, this is left of what the loop knows: its place is free
abbrev pub FreesPlace : ℕ → Place → Service → Service → Type 0
FreesPlace k place service service' = service' ≡ record service {
  noted = service'.noted;
  places = slice_set service.places k (record place { stage = Free });
  queue = freed_queue service.queue;
}

abbrev pub IsRested : Service → World → Type 0
IsRested service world = (k : ℕ) → k < 64 → IsRestedAt k service world

abbrev pub AreAllSettled : {H : Type 0} → Service → Past H → Type 0
AreAllSettled service past = (k : ℕ) → k < 64 → IsSettledAt k service past

-- where an accept failed and was not tried again, it failed in this second
abbrev pub IsTried : Service → Type 0
IsTried service = (since : ℕ) → service.queue ≡ Barred since → since ≡ service.times.steady

-- where reports are wanted, one was told in this second, or less than so many seconds ago
abbrev pub IsReported : Service → Type 0
IsReported service =
    (every : ℕ) → service.limits.report ≡ Some every → service.told.report ≡ service.times.steady ⊎ service.times.steady - service.told.report < every

-- whether the journal was told that what is kept wants room alone is other
abbrev pub OnlyTellsRoom : Service → Service → Type 0
OnlyTellsRoom service service' = service' ≡ record service { told = record service.told { room = service'.told.room } }

-- what is told of the server alone is other
abbrev pub OnlyTells : Service → Service → Type 0
OnlyTells service service' = service' ≡ record service { told = service'.told; full = service'.full }

-- nobody is silent for too long, nor is accepting barred
pub record IsCalm (service : Service) : Type 0 where
  pub idle : NobodyIsSilent service
  pub crowded : service.queue ≡ Waits → AreWithin service.limits.crowded service.times service.places
  pub tried : IsTried service

-- the connection at a place is not between two requests
abbrev pub IsApart : Place → Option Connection → Type 0
IsApart place connection = ¬ (IsBetween place connection)

-- all connections are between two requests
abbrev pub AreAllBetween : Service → World → Type 0
AreAllBetween service world = AreBetween service.places world.connections

-- not all are
abbrev pub AreNotBetween : Service → World → Type 0
AreNotBetween service world = ¬ (AreAllBetween service world)

-- they are, or it is longer than the limit since then
abbrev pub IsTimeSince : ℕ → Service → World → Type 0
IsTimeSince since service world = AreAllBetween service world ⊎ (service.limits.crowded < service.times.steady - since)

abbrev pub IsNoTimeSince : ℕ → Service → World → Type 0
IsNoTimeSince since service world = ¬ (IsTimeSince since service world)

-- it is time to reload
abbrev pub MayEnd : Service → World → Type 0
MayEnd service world = IsTimeToReload service.reload service.limits.crowded service.times service.places world.connections

abbrev pub ServesOn : Service → World → Type 0
ServesOn service world = ¬ (MayEnd service world)

-- all places are settled, and nobody is to be accepted, or it was tried since the last wait
pub record IsReadyToWait {H : Type 0} (service : Service) (past : Past H) : Type 0 where
  pub settled : AreAllSettled service past
  pub queue : service.queue ≢ Told ⊎ IsDone Accepting past.calls
  pub calm : IsCalm service
  pub room : IsRoomMadeIn service past.journey.world
  pub reported : IsReported service

-- HOW THE PARTS LEAD ON

module _ {N C J K H : Type 0} (p : Promises N C J K H) where
  -- steps lead on, and nobody becomes silent for longer
  pub record LeadsOn (first : LoopState N C J K H) (before : Standing N C J K H) (after : Running N C J K H) : Type 0 where
    pub next : Past H
    pub served : Served p first (state_of after before.found next)
    pub done : DoneAfter before.past.calls next.calls
    pub within : NobodyIsSilent before.now.service → NobodyIsSilent after.service

  -- so they do, touch one place alone, and make calls of one kind alone; what was ready for it stays ready
  pub record GoesAt (first : LoopState N C J K H) (duty : Duty) (before : Standing N C J K H) (after : Running N C J K H) : Type 0 where
    pub on : LeadsOn first before after
    pub others : LeavesOthers duty.k before.now.service before.past.journey.world after.service on.next.journey.world
    pub ready : IsReadyFor duty.kind before.past before.now.tools.tellings → IsReadyFor duty.kind on.next after.tools.tellings
    pub alone : (other : CallKind) → other ≢ duty.kind → ¬ (IsDone other before.past.calls) → ¬ (IsDone other on.next.calls)

  -- a call of the kind is made at one place, or nothing changed, since it is not to be made
  pub record ActsAt (first : LoopState N C J K H) (duty : Duty) (before : Standing N C J K H) (after : Running N C J K H) : Type 0 where
    pub goes : GoesAt first duty before after
    pub due : after.service.due ≡ before.now.service.due
    pub acts : StaysIdle duty before.now.service before.past.journey.world after.service goes.on.next.journey.world ⊎ IsDone duty.kind goes.on.next.calls

  -- so it is where it was not done since the last wait, and may be done
  abbrev pub LeadsToActs : Duty → Running N C J K H → Running N C J K H → Type 0
  LeadsToActs duty before after =
      (first : LoopState N C J K H) (found : List Ready) (past : Past H) → ¬ (IsDone duty.kind past.calls) → IsReadyFor duty.kind past before.tools.tellings →
      Served p first (state_of before found past) → Reached p.hosting before.tools.edge past.journey → ActsAt first duty (standing before found past) after

  -- steps lead on, which touch one place alone, and it is settled
  pub record SettlesAt (first : LoopState N C J K H) (k : ℕ) (before : Standing N C J K H) (after : Running N C J K H) : Type 0 where
    pub goes : GoesAt first (to_write k) before after
    pub settled : IsSettledAt k after.service goes.on.next

  -- it is closed where it is over, and else it is noted whether something is due there
  pub record TidiesAt (first : LoopState N C J K H) (k : ℕ) (before : Standing N C J K H) (after : Running N C J K H) : Type 0 where
    pub goes : GoesAt first (to_write k) before after
    pub rested : IsRestedAt k after.service goes.on.next.journey.world
    pub turned : HoldsAt k before.now.service before.past.journey.world NeedsNoRead ⊎
        (IsDone (Reading k) before.past.calls ⊎ IsDone (Writing k) before.past.calls) →
        HoldsAt k before.now.service before.past.journey.world NeedsNoWrite ⊎ IsDone (Writing k) before.past.calls →
        HoldsAt k after.service goes.on.next.journey.world (λ place connection. HadTurn k place connection goes.on.next.calls)
    pub left : slice_get after.service.due k ≡ Some true → IsLeftAt k before.now.service before.past.journey.world

  abbrev pub LeadsToTidy : ℕ → Running N C J K H → Running N C J K H → Type 0
  LeadsToTidy k before after =
      (first : LoopState N C J K H) (found : List Ready) (past : Past H) → Served p first (state_of before found past) → Reached p.hosting before.tools.edge past.journey →
      TidiesAt first k (standing before found past) after

  -- a connection is closed, wherever the edge was reached
  pub record GoesAway (k : ℕ) (place : Place) (before : Standing N C J K H) (after : Running N C J K H) : Type 0 where
    pub next : Past H
    pub closes : Closes p k place (state_of before.now before.found before.past) (state_of after before.found next)

  abbrev pub LeadsAway : ℕ → Place → Running N C J K H → Running N C J K H → Type 0
  LeadsAway k place before after =
      (found : List Ready) (past : Past H) → Reached p.hosting before.tools.edge past.journey → GoesAway k place (standing before found past) after

  -- or it is handed on
  pub record GoesPassing (k : ℕ) (place : Place) (before : Standing N C J K H) (after : Running N C J K H) : Type 0 where
    pub next : Past H
    pub passes : Passes p k place (state_of before.now before.found before.past) (state_of after before.found next)

  abbrev pub LeadsPassing : ℕ → Place → Running N C J K H → Running N C J K H → Type 0
  LeadsPassing k place before after =
      (found : List Ready) (past : Past H) → Reached p.hosting before.tools.edge past.journey → GoesPassing k place (standing before found past) after

  -- steps lead on, and all places are settled
  pub record GoesSettled (first : LoopState N C J K H) (found : List Ready) (past : Past H) (after : Running N C J K H) : Type 0 where
    pub next : Past H
    pub served : Served p first (state_of after found next)
    pub settled : AreAllSettled after.service next
    pub done : DoneAfter past.calls next.calls

  abbrev pub LeadsToSettled : List Ready → Running N C J K H → List Ready → Running N C J K H → Type 0
  LeadsToSettled found before found' after =
      (first : LoopState N C J K H) (past : Past H) → Served p first (state_of before found past) → AreAllSettled before.service past →
      GoesSettled first found' past after

  -- so they do whatever the last wait found and was not looked at yet
  abbrev pub SettlesAll : Running N C J K H → Running N C J K H → Type 0
  SettlesAll before after = (found : List Ready) → LeadsToSettled found before found after

  -- so they do, and where it is so then, it was tried to accept since the last wait
  pub record GoesAccepting (first : LoopState N C J K H) (before : Standing N C J K H) (P : Type 0) (after : Running N C J K H) : Type 0 where
    pub goes : GoesSettled first before.found before.past after
    pub tried : P → IsDone Accepting goes.next.calls

  abbrev pub LeadsToAccepts : Type 0 → Running N C J K H → Running N C J K H → Type 0
  LeadsToAccepts P before after =
      (found : List Ready) (first : LoopState N C J K H) (past : Past H) → Served p first (state_of before found past) → AreAllSettled before.service past →
      GoesAccepting first (standing before found past) P after

  -- what was found ready is noted at its place
  abbrev pub LeadsToHearing : List Ready → Running N C J K H → List Ready → Running N C J K H → Type 0
  LeadsToHearing found before found' after =
      (first : LoopState N C J K H) (past : Past H) → Served p first (state_of before found past) → IsRested before.service past.journey.world →
      Served p first (state_of after found' past) × IsRested after.service past.journey.world

  -- so is the first of it
  abbrev pub HearsOf : Ready → Running N C J K H → Running N C J K H → Type 0
  HearsOf ready before after = (more : List Ready) → LeadsToHearing (ready ∷ more) before more after

  -- a place is read
  pub record ReadsAt (first : LoopState N C J K H) (k : ℕ) (before : Standing N C J K H) (after : Running N C J K H) : Type 0 where
    pub goes : GoesAt first (to_read k) before after
    pub due : after.service.due ≡ before.now.service.due
    pub done : IsDone (Reading k) goes.on.next.calls

  -- so it is where it was not read since the last wait
  abbrev pub LeadsToRead : ℕ → Running N C J K H → Running N C J K H → Type 0
  LeadsToRead k before after =
      (first : LoopState N C J K H) (found : List Ready) (past : Past H) → ¬ (IsDone (Reading k) past.calls) →
      Served p first (state_of before found past) → Reached p.hosting before.tools.edge past.journey → ReadsAt first k (standing before found past) after

  -- each place below i was read, where it may be, none was written to, and nothing was kept
  pub record GoesReading (first : LoopState N C J K H) (i : ℕ) (before : Standing N C J K H) (after : Running N C J K H) : Type 0 where
    pub on : LeadsOn first before after
    pub rested : IsRested after.service on.next.journey.world
    pub heard : (j : ℕ) → j < i → IsHeardAt j after.service on.next
    pub hearing : IsHearing after.service on.next

  -- so it is, and it was looked no more
  pub record ReadsOn (first : LoopState N C J K H) (i : ℕ) (before : Standing N C J K H) (after : Running N C J K H) : Type 0 where
    pub goes : GoesReading first i before after
    pub unlooked : (m : ℕ) → ¬ (IsDone (Looking m) before.past.calls) → ¬ (IsDone (Looking m) goes.on.next.calls)

  abbrev pub LeadsReading : ℕ → Running N C J K H → Running N C J K H → Type 0
  LeadsReading i before after =
      (first : LoopState N C J K H) (found : List Ready) (past : Past H) → IsHearing before.service past → IsRested before.service past.journey.world →
      Served p first (state_of before found past) → ReadsOn first i (standing before found past) after

  -- behind a wait it was looked again as often as i, and all was read
  pub record GoesFurther (first : LoopState N C J K H) (i : ℕ) (start : Standing N C J K H) (after : Running N C J K H) : Type 0 where
    pub reading : GoesReading first 64 start after
    pub unlooked : (m : ℕ) → i ≤ m → ¬ (IsDone (Looking m) reading.on.next.calls)

  -- so it is where a wait was, and it was not looked again yet
  abbrev pub LeadsFurther : ℕ → Running N C J K H → Running N C J K H → Type 0
  LeadsFurther i before after =
      (first : LoopState N C J K H) (start : Running N C J K H) (since : Past H) → 0 < waits since.calls → ((m : ℕ) → ¬ (IsDone (Looking m) since.calls)) →
      ReadsOn first 64 (standing start [] since) before → GoesFurther first i (standing start [] since) after

  -- nothing is unkept, where something may be due the keeper was asked whether nobody else had begun, and all else is as it was
  pub record GoesKept (first : LoopState N C J K H) (before : Standing N C J K H) (tools' : Tools N C J K H) : Type 0 where
    pub next : Past H
    pub served : Served p first (state_of (running before.now.service tools') before.found next)
    pub kept : IsAllKept next.journey.world
    pub confirmed : IsDueNowhere before.now.service ⊎ IsConfirmed next.calls
    pub connections : next.journey.world.connections ≡ before.past.journey.world.connections
    pub done : DoneAfter before.past.calls next.calls
    pub alone : (other : CallKind) → other ≢ Keeping → ¬ (IsDone other before.past.calls) → ¬ (IsDone other next.calls)

  abbrev pub LeadsToKept : Service → Tools N C J K H → Tools N C J K H → Type 0
  LeadsToKept service tools tools' =
      (first : LoopState N C J K H) (found : List Ready) (past : Past H) → ¬ (IsDone Keeping past.calls) →
      Served p first (state_of (running service tools) found past) → Reached p.hosting tools.edge past.journey → GoesKept first (standing (running service tools) found past) tools'

  -- where nothing is unkept, all that was told is handed on, and all else is as it was
  pub record GoesAudited (first : LoopState N C J K H) (before : Standing N C J K H) (tools' : Tools N C J K H) : Type 0 where
    pub served : Served p first (state_of (running before.now.service tools') before.found before.past)
    pub told : IsAllTold tools'.tellings

  abbrev pub LeadsToAudit : Tools N C J K H → Tools N C J K H → Type 0
  LeadsToAudit tools tools' =
      (first : LoopState N C J K H) (found : List Ready) (service : Service) (past : Past H) → IsAllKept past.journey.world →
      Served p first (state_of (running service tools) found past) → GoesAudited first (standing (running service tools) found past) tools'

  -- nothing is unkept, all that was told is handed on, and all else is as it was
  pub record GoesTold (first : LoopState N C J K H) (before : Standing N C J K H) (tools' : Tools N C J K H) : Type 0 where
    pub goes : GoesKept first before tools'
    pub told : IsAllTold tools'.tellings

  abbrev pub LeadsToTold : Service → Tools N C J K H → Tools N C J K H → Type 0
  LeadsToTold service tools tools' =
      (first : LoopState N C J K H) (found : List Ready) (past : Past H) → ¬ (IsDone Keeping past.calls) →
      Served p first (state_of (running service tools) found past) → Reached p.hosting tools.edge past.journey → GoesTold first (standing (running service tools) found past) tools'

  -- or that failed
  abbrev pub LeadsToLoss : Service → Tools N C J K H → LoopFault → Tools N C J K H → Type 0
  LeadsToLoss service tools fault tools' =
      (first : LoopState N C J K H) (found : List Ready) (past : Past H) → ¬ (IsDone Keeping past.calls) →
      Served p first (state_of (running service tools) found past) → Reached p.hosting tools.edge past.journey →
      CannotGoOn p (state_of (running service tools) found past) fault (state_of (running service tools') found past)

  -- What is kept was shortened by a slice, and is long still; or it is short; or that was not tried, or refused.
  pub record GoesShorter (first : LoopState N C J K H) (before : Standing N C J K H) (told : Option Length) (after : Running N C J K H) : Type 0 where
    pub calls : List Call
    pub served : Served p first (state_of after before.found (record before.past { calls = calls }))
    pub done : DoneMore before.past.calls calls
    pub sliced : told ≡ Some Long → IsDone Shortening calls
    pub rests : told ≢ Some Long → IsKeptShort p (state_of after before.found (record before.past { calls = calls }))
    pub short : told ≡ Some Short → ¬ (p.keeping.is_long after.tools.keeper)
    pub tended : told_since calls ≡ told_since before.past.calls

  -- wherever steps lead to, they lead on, and it is so
  abbrev pub LeadsToShort : Running N C J K H → Option Length → Running N C J K H → Type 0
  LeadsToShort before told after =
      (first : LoopState N C J K H) (found : List Ready) (past : Past H) → ¬ (IsDone Shortening past.calls) →
      Served p first (state_of before found past) → Reached p.hosting before.tools.edge past.journey → GoesShorter first (standing before found past) told after

  -- the keeper kept its place, and all else is as it was
  abbrev pub LeadsToTended : ℕ → Tools N C J K H → Option ℕ → Tools N C J K H → Type 0
  LeadsToTended steady tools due tools' =
      (first : LoopState N C J K H) (found : List Ready) (service : Service) (past : Past H) → service.times.steady ≡ steady → Served p first (state_of (running service tools) found past) →
      Served p first (state_of (running service tools') found (record past { calls = call.Tended due ∷ past.calls }))

  -- or that failed
  abbrev pub LeadsToUntended : Tools N C J K H → LoopFault → Tools N C J K H → Type 0
  LeadsToUntended tools fault tools' =
      (found : List Ready) (service : Service) (past : Past H) → CannotGoOn p (state_of (running service tools) found past) fault (state_of (running service tools') found past)

  -- steps lead on, by which nothing was called
  abbrev pub LeadsTelling : Running N C J K H → Running N C J K H → Type 0
  LeadsTelling before after =
      (first : LoopState N C J K H) (found : List Ready) (past : Past H) → Served p first (state_of before found past) → Served p first (state_of after found past)

  -- or that failed
  abbrev pub LeadsToUnshortened : Running N C J K H → LoopFault → Running N C J K H → Type 0
  LeadsToUnshortened before fault after =
      (first : LoopState N C J K H) (found : List Ready) (past : Past H) → ¬ (IsDone Shortening past.calls) →
      Served p first (state_of before found past) → Reached p.hosting before.tools.edge past.journey →
      CannotGoOn p (state_of before found past) fault (state_of after found past)

  -- each place below i is settled; those from i on were heard, and not written to; and where something may be due there, it may be written
  pub record GoesWriting (first : LoopState N C J K H) (i : ℕ) (before : Standing N C J K H) (after : Running N C J K H) : Type 0 where
    pub on : LeadsOn first before after
    pub below : (j : ℕ) → j < i → IsSettledAt j after.service on.next
    pub rested : (j : ℕ) → i ≤ j → j < 64 → IsRestedAt j after.service on.next.journey.world
    pub heard : (j : ℕ) → i ≤ j → j < 64 → IsHeardAt j after.service on.next
    pub unwritten : (j : ℕ) → i ≤ j → ¬ (IsDone (Writing j) on.next.calls)
    pub kept : IsDueNowhereFrom i after.service ⊎ IsWritable on.next after.tools.tellings

  abbrev pub LeadsWriting : ℕ → Running N C J K H → Running N C J K H → Type 0
  LeadsWriting i before after =
      (first : LoopState N C J K H) (found : List Ready) (past : Past H) → IsRested before.service past.journey.world →
      ((j : ℕ) → j < 64 → IsHeardAt j before.service past) → ((j : ℕ) → ¬ (IsDone (Writing j) past.calls)) → IsDueNowhere before.service ⊎ IsWritable past before.tools.tellings →
      Served p first (state_of before found past) → GoesWriting first i (standing before found past) after

  -- steps lead through so many waits
  pub record GoesRound (first : LoopState N C J K H) (count : ℕ) (past : Past H) (after : Running N C J K H) : Type 0 where
    pub next : Past H
    pub served : Served p first (state_of after [] next)
    pub ready : IsReadyToWait after.service next
    pub unshortened : ¬ (IsDone Shortening next.calls)
    pub waits_are : waits next.calls ≡ waits past.calls + count

  abbrev pub LeadsRound : ℕ → Running N C J K H → Running N C J K H → Type 0
  LeadsRound count before after =
      (first : LoopState N C J K H) (past : Past H) → Served p first (state_of before [] past) → IsReadyToWait before.service past → ¬ (IsDone Shortening past.calls) →
      GoesRound first count past after

  -- steps lead to a state where something fails
  pub record GoesWrong (first : LoopState N C J K H) (fault : LoopFault) (after : Running N C J K H) : Type 0 where
    pub last : LoopState N C J K H
    pub served : Served p first last
    pub found : List Ready
    pub next : Past H
    pub fails : CannotGoOn p last fault (state_of after found next)

  abbrev pub LeadsWrong : LoopFault → Running N C J K H → Running N C J K H → Type 0
  LeadsWrong fault before after =
      (first : LoopState N C J K H) (past : Past H) → Served p first (state_of before [] past) → IsReadyToWait before.service past → ¬ (IsDone Shortening past.calls) →
      GoesWrong first fault after

  -- a report tells what is so now
  abbrev pub TellsNow : Running N C J K H → Report → Type 0
  TellsNow now report = (found : List Ready) (past : Past H) → Tells p (state_of now found past) report

  -- where reports are wanted, there is one more
  abbrev pub LeadsLast : Running N C J K H → Running N C J K H → Type 0
  LeadsLast before after = (found : List Ready) (past : Past H) → TellsLast p (state_of before found past) (state_of after found past)

  -- connections that are left are closed, or handed on
  pub record GoesShut (fault : LoopFault) (first : LoopState N C J K H) (found : List Ready) (after : Running N C J K H) : Type 0 where
    pub next : Past H
    pub shuts : Shuts p fault first (state_of after found next)
    pub reached : Reached p.hosting after.tools.edge next.journey

  abbrev pub LeadsShut : LoopFault → Running N C J K H → Running N C J K H → Type 0
  LeadsShut fault before after =
      (first : LoopState N C J K H) (found : List Ready) (past : Past H) → Shuts p fault first (state_of before found past) →
      Reached p.hosting before.tools.edge past.journey → GoesShut fault first found after
