-- All that the loop does, step by step.
use Rattle.std.specs.Prelude.{◌≡◌, ◌≢◌, ◌⊎◌, ◌<◌, ◌≤◌, ◌-◌, max, ℕ, Bool, true, false, ◌||◌, List, [], ◌∷◌, Option, Some, None, IsSome, slice_get, length}
use Rattle.event_loop.specs.Names.{Told, Empty, Barred, Waits, Leaving, AreLeftOfReply, Ready, Keeps, KeepsBasis, IsNoFurther, SeenEdge, GoesOn, Connection, Notice, Reported}
use Rattle.outside.specs.declared.clocks.Times.{Times}
use Rattle.outside.specs.declared.fault.LoopFault.{LoopFault}
use Rattle.outside.specs.declared.fault.LoopFault.TheVariants.{Reload}
use Rattle.event_loop.specs.declared.place.Place.{Place}
use Rattle.outside.specs.declared.sockets.Ready.TheVariants as ready
use Rattle.outside.specs.Calls as call
use Rattle.outside.specs.Calls.{Call, Reading, Looking, Keeping, Writing, Accepting, Shortening, IsConfirmed, IsDone, done_since, told_since}
use Rattle.event_loop.specs.Asking.{IsSoleUpTo, StaysKept, milliseconds, rest_limit}
use Rattle.event_loop.specs.Progress.{known, led, IsReached}
use Rattle.http_edge.specs.Schedule.{Kept}
use Rattle.event_loop.specs.Places.{IsOccupied, IsOneLeaving, MayRead, MayWrite, NeedsNoRead, NeedsNoWrite, IsOver, IsPlaceAtRest, AllFree, places_limit, ready_limit, looks_limit}
use Rattle.event_loop.specs.LoopStates.{Promises, LoopState, IsAllKept, IsUnkept, with_call, with_place}
use Rattle.event_loop.specs.Coming.{AcceptsOne, one_more, told_queue}
use Rattle.event_loop.specs.Reading.{ReadsPlace}
use Rattle.event_loop.specs.Writing.{WritesPlace}
use Rattle.event_loop.specs.Closing.{AreWithin, Cause, Closes, IsBetween, IsEldest, IsOwed, IsRoomMade, IsTimeToReload, Passes, asked_since}
use Rattle.event_loop.specs.Reporting.{IsDue, Tells, TellsRefusal, is_long_ago}
use Rattle.event_loop.specs.Moments.{KeepsAhead, KeepsTimes, seconds_too_far}
use Rattle.event_loop.specs.declared.report.LastTold.{LastTold}
use Rattle.outside.specs.declared.report.Report.{Report}
use Rattle.telling.specs.Audience.{IsAllTold, forgotten}

-- No more is kept than may be, or something is unkept, or shortening was refused less than a minute ago.
abbrev pub IsKeptShort : {N C J K H : Type 0} → Promises N C J K H → LoopState N C J K H → Type 0
IsKeptShort p s = IsAllKept s.progress.journey.world → p.keeping.is_long s.keeper → is_long_ago s.refused s.times.steady 60 ≡ false

-- nothing is to be done now: at no place, nobody is to be accepted, and nothing is to be shortened
pub record IsIdle {N C J K H : Type 0} (p : Promises N C J K H) (s : LoopState N C J K H) : Type 0 where
  pub places : (k : ℕ) (place : Place) → slice_get s.places k ≡ Some place → IsPlaceAtRest place (known s.progress k)
  pub queue : s.queue ≢ Told
  pub short : IsKeptShort p s

-- The place had its turn since the last wait: no read is to be done there, or one was done, or a write, which may have made
-- room for one; no write is to be done, or one was done; and its connection is not over.
pub record HadTurn (k : ℕ) (place : Place) (connection : Option Connection) (calls : List Call) : Type 0 where
  pub read : NeedsNoRead place connection ⊎ (IsDone (Reading k) calls ⊎ IsDone (Writing k) calls)
  pub written : NeedsNoWrite place connection ⊎ IsDone (Writing k) calls
  pub goes_on : ¬ (IsOver place connection)

-- so did each place; and nobody is to be accepted, or it was tried
pub record IsFair {N C J K H : Type 0} (s : LoopState N C J K H) : Type 0 where
  pub places : (k : ℕ) (place : Place) → slice_get s.places k ≡ Some place → HadTurn k place (known s.progress k) s.calls
  pub queue : s.queue ≢ Told ⊎ IsDone Accepting s.calls

-- As the clocks told last, nobody is silent for longer than the limit, nor, where another connection waits for a place, for
-- longer than the other limit, and there is room for it, as far as there may be; where an accept failed and was not tried again, it failed in this second; and where reports
-- are wanted, one was told in this second, or less than so many seconds ago; and it is no time to reload.
pub record IsPrompt {N C J K H : Type 0} (s : LoopState N C J K H) : Type 0 where
  pub idle : AreWithin s.limits.idle s.times s.places
  pub crowded : s.queue ≡ Waits → AreWithin s.limits.crowded s.times s.places
  pub room : s.queue ≡ Waits → IsRoomMade s.turn s.limits.crowded s.times s.places s.progress.journey.world.connections
  pub tried : (since : ℕ) → s.queue ≡ Barred since → since ≡ s.times.steady
  pub reported : (every : ℕ) → s.limits.report ≡ Some every → s.told.report ≡ s.times.steady ⊎ s.times.steady - s.told.report < every
  pub serves_on : ¬ (IsTimeToReload s.reload s.limits.crowded s.times s.places s.progress.journey.world.connections)

-- How long it waits, in milliseconds: not at all only where something was done since the last wait; else, where nothing is
-- to be done, for a second, or less where the keeper wants to be called again before that; or, where it does not, while no connection is
-- there, no accept is to be tried again, no reports are wanted and no more is kept than may be, for ever.
pub data IsPatient {N C J K H : Type 0} (p : Promises N C J K H) (s : LoopState N C J K H) (due : Option ℕ) : Option ℕ → Type 0 where
  looks : 0 < done_since s.calls → IsPatient p s due (Some 0)
  rests : IsIdle p s → IsPatient p s due (Some (rest_limit due (milliseconds s.times.steady)))
  sleeps : IsIdle p s → AllFree s.places → ((since : ℕ) → s.queue ≢ Barred since) → s.limits.report ≡ None → ¬ (p.keeping.is_long s.keeper) → due ≡ None → IsPatient p s due None

-- It may wait so long now, with room for so much: all that the last wait found was looked at, and where nothing is unkept and more
-- is kept than may be, that was shortened by a slice since the last wait, or it was refused less than a minute ago; the journal
-- was told whether what is kept wants room; and the keeper kept its place since the last wait, and told by when it wants to be called again.
pub record MayWait {N C J K H : Type 0} (p : Promises N C J K H) (s : LoopState N C J K H) (limit : Option ℕ) (room : ℕ) : Type 0 where
  pub due : Option ℕ
  pub tended : told_since s.calls ≡ Some due
  pub patient : IsPatient p s due limit
  pub fair : IsFair s
  pub prompt : IsPrompt s
  pub heard : s.found ≡ []
  pub roomy : ready_limit ≤ room
  pub short : IsDone Shortening s.calls ⊎ IsKeptShort p s
  pub want_told : s.told.room ≡ p.keeping.wants_room s.keeper

-- It may look again what is ready, without waiting: while something is unkept and was not given to the keeper yet, each time but once
-- between two waits, and where all that was found was looked at.
pub record MayLook {N C J K H : Type 0} (s : LoopState N C J K H) (nth room : ℕ) : Type 0 where
  pub unkept : IsUnkept s.progress.journey.world
  pub not_kept : ¬ (IsDone Keeping s.calls)
  pub behind : 0 < call.waits s.calls
  pub unlooked : ¬ (IsDone (Looking nth) s.calls)
  pub few : nth < looks_limit
  pub heard : s.found ≡ []
  pub roomy : ready_limit ≤ room

-- the place, when its connection was found ready
abbrev pub told_place : Place → Bool → Bool → Bool → Place
told_place place readable writable hung =
    record place { readable = place.readable || readable; writable = place.writable || writable; hung = place.hung || hung }

-- One step: a wait with a look at the clocks behind it, whose moment is kept where it is not too far ahead of the greatest
-- before it, a look at what the wait found, something done
-- for connections, the journal is told what is due, what is unkept is kept, or what is kept is shortened by a slice, or that is
-- refused. Between two waits a place is read at most once, and written to at most once, it is kept at most once, and shortened at
-- most once. Nothing is written, and nothing is shortened, while something is unkept; and nothing is written while something that was
-- told of requests was not handed to the journal, nor before the keeper was asked, since the last wait and behind the last read,
-- whether nobody else had begun.
-- Keeping adds to what is to be gone over no more than eight times what it adds to what is kept.
pub data LoopStep {N C J K H : Type 0} (p : Promises N C J K H) (s : LoopState N C J K H) : LoopState N C J K H → Type 0 where
  waits : (limit : Option ℕ) (room : ℕ) (found : List Ready) (n : N) (times : Times) (c : C) (keeper : K) → MayWait p s limit room →
      p.sockets.does s.sockets (call.Waited limit room found) n → p.clocks.tells s.clocks (Some times) c →
      seconds_too_far s.limits.ahead (Some times) s.held ≡ None → KeepsTimes p.keeping times s.keeper keeper →
      IsNoFurther p.keeping.to_go p.keeping.size s.keeper keeper → LoopStep p s (record (with_call s (call.Waited limit room found) n)
      { clocks = c; keeper = keeper; found = found; times = times; held = max s.held times.moment; turn = one_more s.turn })
  -- what was done since the last wait stays done
  looks_again : (nth room : ℕ) (found : List Ready) (n : N) → MayLook s nth room → p.sockets.does s.sockets (call.Waited (Some 0) room found) n →
      LoopStep p s (record (with_call s (call.Looked nth room (Some found)) n) { found = found })
  fails_to_look : (nth room : ℕ) (n : N) → MayLook s nth room → p.sockets.does s.sockets (call.WaitFailed (Some 0) room) n →
      LoopStep p s (with_call s (call.Looked nth room None) n)
  hears_of_listener : (more : List Ready) → s.found ≡ ready.Listener ∷ more → LoopStep p s (record s { found = more; queue = told_queue s.queue })
  hears_of_reload : (more : List Ready) → s.found ≡ ready.Reload ∷ more → LoopStep p s (record s { found = more; reload = asked_since s.reload s.times.steady })
  hears_of : (k : ℕ) (readable writable hung : Bool) (more : List Ready) (place place' : Place) → s.found ≡ ready.Connection k readable writable hung ∷ more →
      slice_get s.places k ≡ Some place → place' ≡ told_place place readable writable hung → LoopStep p s (record (with_place s k place') { found = more })
  hears_of_none : (k : ℕ) (readable writable hung : Bool) (more : List Ready) → s.found ≡ ready.Connection k readable writable hung ∷ more →
      slice_get s.places k ≡ None → LoopStep p s (record s { found = more })
  comes : (s' : LoopState N C J K H) → s.queue ≡ Told → AcceptsOne p s s' → LoopStep p s s'
  -- in another second than an accept failed in, it is tried again
  tries_again : (since : ℕ) → s.queue ≡ Barred since → since ≢ s.times.steady → LoopStep p s (record s { queue = Told })
  reads : (k : ℕ) (place : Place) (s' : LoopState N C J K H) → slice_get s.places k ≡ Some place → place.readable ≡ true → ¬ (IsDone (Reading k) s.calls) →
      MayRead place (known s.progress k) → ReadsPlace p k place s s' → LoopStep p s s'
  writes : (k : ℕ) (place : Place) (s' : LoopState N C J K H) → slice_get s.places k ≡ Some place → place.writable ≡ true → ¬ (IsDone (Writing k) s.calls) →
      IsAllKept s.progress.journey.world → IsAllTold s.progress.audience → IsConfirmed s.calls → MayWrite place (known s.progress k) → WritesPlace p k place s s' → LoopStep p s s'
  closes : (k : ℕ) (place : Place) (s' : LoopState N C J K H) → slice_get s.places k ≡ Some place → IsOccupied place.stage → Cause s k place →
      Closes p k place s s' → LoopStep p s s'
  -- where another connection waits, the one that came first of those that are owed replies, and is there for longer than the limit, is
  -- chosen to make room, if none was no longer ago than that: it is read no more, and goes once it took what is left of the reply that it
  -- began to take; those behind it were made, and are not written
  hears_out : (k : ℕ) (place : Place) (left : ℕ) → slice_get s.places k ≡ Some place → s.queue ≡ Waits → s.limits.crowded < s.times.steady - place.came →
      IsEldest IsOwed s.places s.progress.journey.world.connections k place → ¬ (IsOneLeaving s.limits.crowded s.times s.places) →
      AreLeftOfReply (known s.progress k) left → 0 < left →
      LoopStep p s (with_place s k (record place { stage = Leaving left; came = s.times.steady }))
  -- the journal alone is another
  reports : (notice : Notice) (told : LastTold) (journal : J) → IsDue p s notice told → p.journal.reports s.noted.journal notice journal →
      LoopStep p s (record s { noted = record s.noted { journal = journal }; told = told })
  keeps : (keeper : K) (e : SeenEdge H) (unkept : IsUnkept s.progress.journey.world) (on : GoesOn p.hosting e s.progress.journey Kept) →
      ¬ (IsDone Keeping s.calls) → Keeps p.keeping.crashes unkept.kept s.progress.journey.world.history s.keeper keeper →
      KeepsAhead p.keeping s.times.moment s.keeper keeper → IsNoFurther p.keeping.to_go p.keeping.size s.keeper keeper → IsSoleUpTo p.keeping s.keeper keeper →
      LoopStep p s (record s { keeper = keeper; progress = led s.progress on; calls = call.Kept ∷ s.calls })
  -- where nothing is unkept, the keeper told that up to now nobody else had begun: it alone is another, which holds the same
  confirms : (keeper : K) → IsAllKept s.progress.journey.world → StaysKept p.keeping s.keeper keeper → IsSoleUpTo p.keeping s.keeper keeper →
      LoopStep p s (record s { keeper = keeper; calls = call.Confirmed ∷ s.calls })
  -- it kept its place, and told by when it wants to be called again: it alone is another, which holds the same
  tends : (keeper : K) (due : Option ℕ) → StaysKept p.keeping s.keeper keeper → p.keeping.tends s.keeper (milliseconds s.times.steady) due keeper →
      LoopStep p s (record s { keeper = keeper; calls = call.Tended due ∷ s.calls })
  -- where nothing is unkept, what was told of requests, if anything was, is handed to the journal, all of it, in its order, with how
  -- much more there was no room for
  audits : (journal : J) → IsAllKept s.progress.journey.world → ¬ (IsAllTold s.progress.audience) → p.journal.audits s.noted.journal s.progress.edge.server.rules s.progress.audience journal →
      LoopStep p s (record s { noted = record s.noted { journal = journal }; progress = record s.progress { audience = forgotten s.progress.audience } })
  -- where more is kept than may be, the keeper alone is another, which holds the same: no more than a slice was gone over, and less
  -- is to be gone over than before until that is shortened, or it is
  shortens : (keeper : K) → IsAllKept s.progress.journey.world → p.keeping.is_long s.keeper → ¬ (IsDone Shortening s.calls) →
      Keeps p.keeping.crashes s.progress.journey.world.history s.progress.journey.world.history s.keeper keeper → KeepsBasis p.keeping.crashes 0 s.keeper keeper →
      p.keeping.kept_until keeper ≡ p.keeping.kept_until s.keeper → p.keeping.slices s.keeper keeper →
      ((p.keeping.to_go keeper < p.keeping.to_go s.keeper) × (p.keeping.size keeper ≡ p.keeping.size s.keeper)) ⊎ p.keeping.shortens s.keeper keeper →
      LoopStep p s (record s { keeper = keeper; calls = call.Shortened ∷ s.calls })
  -- no more is kept than may be: where it is refused again, that is told again
  is_short : ¬ (p.keeping.is_long s.keeper) → LoopStep p s (record s { refused = None })
  -- shortening is refused, where more is kept than may be: the keeper holds the same; it is tried again after a minute
  no_slice : (keeper : K) → (journal : J) → IsAllKept s.progress.journey.world → p.keeping.is_long s.keeper → is_long_ago s.refused s.times.steady 60 ≡ true →
      Keeps p.keeping.crashes s.progress.journey.world.history s.progress.journey.world.history s.keeper keeper → KeepsBasis p.keeping.crashes 0 s.keeper keeper →
      p.keeping.kept_until keeper ≡ p.keeping.kept_until s.keeper → p.keeping.size keeper ≡ p.keeping.size s.keeper →
      TellsRefusal p.journal s.refused s.noted.journal journal →
      LoopStep p s (record s { keeper = keeper; refused = Some s.times.steady; noted = record s.noted { journal = journal } })

-- At first no connection is there, none is known to wait, and nothing was done, and the edge is reached.
pub record IsFirst {N C J K H : Type 0} (p : Promises N C J K H) (s : LoopState N C J K H) : Type 0 where
  pub size : length s.places ≡ places_limit
  pub free : AllFree s.places
  pub found : s.found ≡ []
  pub noted : s.noted.last ≡ None
  pub held : s.held ≡ s.progress.journey.world.greatest
  pub told : s.told ≡ record { report = s.times.steady; full = None; room = false }
  pub refused : s.refused ≡ None
  pub reload : s.reload ≡ None
  pub began : s.began ≡ s.times.steady
  pub accepted : s.accepted ≡ 0
  pub turn : s.turn ≡ 0
  pub queue : s.queue ≡ Empty
  pub calls : s.calls ≡ []
  pub reached : IsReached p.hosting s.progress

-- Steps lead from the first state to another.
pub data Served {N C J K H : Type 0} (p : Promises N C J K H) (first : LoopState N C J K H) : LoopState N C J K H → Type 0 where
  begins : IsFirst p first → Served p first first
  goes : {s s' : LoopState N C J K H} → Served p first s → LoopStep p s s' → Served p first s'

-- Connections that are left are closed and forgotten, one after another; where the loop ends for a reload, those between two requests
-- are handed on, and no others.
pub data Shuts {N C J K H : Type 0} (p : Promises N C J K H) (fault : LoopFault) (first : LoopState N C J K H) : LoopState N C J K H → Type 0 where
  stops : Shuts p fault first first
  shuts : {s s' : LoopState N C J K H} (k : ℕ) (place : Place) → Shuts p fault first s → slice_get s.places k ≡ Some place → IsOccupied place.stage →
      (fault ≡ Reload → ¬ (IsBetween place (known s.progress k))) → Closes p k place s s' → Shuts p fault first s'
  passes_on : {s s' : LoopState N C J K H} (k : ℕ) (place : Place) → Shuts p fault first s → slice_get s.places k ≡ Some place → fault ≡ Reload →
      IsBetween place (known s.progress k) → Passes p k place s s' → Shuts p fault first s'

-- Behind that, where reports are wanted, there is one more.
pub data TellsLast {N C J K H : Type 0} (p : Promises N C J K H) (s : LoopState N C J K H) : LoopState N C J K H → Type 0 where
  reports_last : (report : Report) (journal : J) → IsSome s.limits.report → Tells p s report → p.journal.reports s.noted.journal (Reported report) journal →
      TellsLast p s (record s { noted = record s.noted { journal = journal } })
  tells_nothing : s.limits.report ≡ None → TellsLast p s s
