-- How connections come.
use Rattle.std.specs.Prelude.{◌<◌, ◌+◌, ◌-◌, ◌^◌, ℕ, true, false, min}
use Rattle.event_loop.specs.Names.{Opened, SeenEdge, GoesOn, IsOpeningRefusal, EdgeFault, Accept, Refused, Open, Queue, Told, Empty, Barred, Asked, Waits, Later}
use Rattle.event_loop.specs.declared.place.Place.{Place}
use Rattle.outside.specs.declared.sockets.Accepted.TheVariants.{Taken, Failed}
use Rattle.outside.specs.Calls as call
use Rattle.event_loop.specs.Progress.{led}
use Rattle.event_loop.specs.Noting.{Noted, NotesFault}
use Rattle.event_loop.specs.Places.{IsFreeAt, AllTaken, places_limit}
use Rattle.event_loop.specs.LoopStates.{Promises, LoopState, with_call, with_place}

-- a place whose connection came now, from which nothing was told to come yet, and which took nothing yet
abbrev pub fresh_place : ℕ → Place
fresh_place now = record { stage = Open; readable = false; writable = true; hung = false; since = now; came = now; turn = 0 }

-- the queue when the listener was found ready
abbrev pub told_queue : Queue → Queue
told_queue Empty = Told
told_queue Asked = Waits
told_queue queue = queue

-- one more, as far as can be counted
abbrev pub one_more : ℕ → ℕ
one_more count = min (count + 1) (2 ^ 64 - 1)

-- Where somebody may wait, a connection is accepted, if there is a free place for it.
pub data AcceptsOne {N C J K H : Type 0} (p : Promises N C J K H) (s : LoopState N C J K H) : LoopState N C J K H → Type 0 where
  opens : (k : ℕ) (n : N) (e : SeenEdge H) (on : GoesOn p.hosting e s.progress.journey (Opened k)) →
      k < places_limit → IsFreeAt s.places k → p.sockets.does s.sockets (call.Tried k Taken) n →
      AcceptsOne p s (record (with_place (with_call s (call.Tried k Taken) n) k (fresh_place s.times.steady)) { progress = led s.progress on; accepted = one_more s.accepted })
  -- the edge refuses it, and it is closed at once
  denies : (k : ℕ) (n n' : N) (fault : EdgeFault) (noted : Noted J) → k < places_limit → IsFreeAt s.places k →
      p.sockets.does s.sockets (call.Tried k Taken) n → IsOpeningRefusal fault s.progress.journey.world.connections k → p.sockets.does n (call.Closed k) n' →
      NotesFault p.journal (Refused fault) s.times.steady s.noted noted →
      AcceptsOne p s (record (with_call (with_call s (call.Tried k Taken) n) (call.Closed k) n') { noted = noted })
  finds_nobody : (k : ℕ) (n : N) → p.sockets.does s.sockets (call.Tried k Later) n →
      AcceptsOne p s (record (with_call s (call.Tried k Later) n) { queue = Empty })
  fails : (k : ℕ) (n : N) (noted : Noted J) → p.sockets.does s.sockets (call.Tried k Failed) n → NotesFault p.journal Accept s.times.steady s.noted noted →
      AcceptsOne p s (record (with_call s (call.Tried k Failed) n) { queue = Barred s.times.steady; noted = noted })
  -- all places are taken
  asks : (n : N) → AllTaken s.places → p.sockets.does s.sockets call.Asked n → AcceptsOne p s (record (with_call s call.Asked n) { queue = Asked })
