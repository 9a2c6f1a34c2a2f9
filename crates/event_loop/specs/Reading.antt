-- How connections are read.
use Rattle.std.specs.Prelude.{◌≡◌, ◌≤◌, ◌<◌, ℕ, false, ◌||◌, List, nat_le, length}
use Rattle.event_loop.specs.Names.{HasEnded, piece_of, SeenEdge, GoesOn, IsEndingRefusal, EdgeFault, Refused, Ended, Broken}
use Rattle.outside.specs.declared.fault.ConnectionFault.TheVariants.{Read}
use Rattle.event_loop.specs.declared.place.Place.{Place}
use Rattle.outside.specs.Calls as call
use Rattle.outside.specs.Calls.{Bytes, End, Nothing, Failed}
use Rattle.event_loop.specs.Progress.{Progress, led}
use Rattle.event_loop.specs.Giving.{AreBytesHeard, IsUnheard}
use Rattle.event_loop.specs.Places.{read_limit}
use Rattle.event_loop.specs.LoopStates.{Promises, LoopState, with_call, with_place}

-- a place from which so many bytes were read: fewer than there was room for are all, unless the peer sends no more
abbrev pub read_place : Place → ℕ → Place
read_place place count = record place { readable = nat_le read_limit count || place.hung }

-- The connection at a place is read once, into a buffer of just so many bytes, and what came is given to the edge at the
-- moment that the clocks told.
pub data ReadsPlace {N C J K H : Type 0} (p : Promises N C J K H) (k : ℕ) (place : Place) (s : LoopState N C J K H) : LoopState N C J K H → Type 0 where
  hears : (bytes : List ℕ) (n : N) (progress : Progress H) (place' : Place) → 0 < length bytes → length bytes ≤ read_limit →
      p.sockets.does s.sockets (call.Read k read_limit (Bytes bytes)) n → AreBytesHeard p.hosting (piece_of k bytes s.times.moment) s.progress progress →
      place' ≡ read_place place (length bytes) →
      ReadsPlace p k place s (record (with_place (with_call s (call.Read k read_limit (Bytes bytes)) n) k place') { progress = progress })
  refuses : (bytes : List ℕ) (n : N) (fault : EdgeFault) (progress : Progress H) → 0 < length bytes → length bytes ≤ read_limit →
      p.sockets.does s.sockets (call.Read k read_limit (Bytes bytes)) n → IsUnheard p.hosting (piece_of k bytes s.times.moment) fault s.progress progress →
      ReadsPlace p k place s
      (record (with_place (with_call s (call.Read k read_limit (Bytes bytes)) n) k (record place { stage = Broken (Refused fault) })) { progress = progress })
  ends : (n : N) (e : SeenEdge H) (on : GoesOn p.hosting e s.progress.journey (HasEnded k)) → p.sockets.does s.sockets (call.Read k read_limit End) n →
      ReadsPlace p k place s (record (with_place (with_call s (call.Read k read_limit End) n) k (record place { stage = Ended })) { progress = led s.progress on })
  ends_nothing : (n : N) (fault : EdgeFault) → p.sockets.does s.sockets (call.Read k read_limit End) n →
      IsEndingRefusal fault s.progress.journey.world.connections k →
      ReadsPlace p k place s (with_place (with_call s (call.Read k read_limit End) n) k (record place { stage = Broken (Refused fault) }))
  finds_nothing : (n : N) → p.sockets.does s.sockets (call.Read k read_limit Nothing) n →
      ReadsPlace p k place s (with_place (with_call s (call.Read k read_limit Nothing) n) k (record place { readable = false }))
  fails : (n : N) → p.sockets.does s.sockets (call.Read k read_limit Failed) n →
      ReadsPlace p k place s (with_place (with_call s (call.Read k read_limit Failed) n) k (record place { stage = Broken Read }))
