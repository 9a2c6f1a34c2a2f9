-- How connections are closed.
use Rattle.std.specs.Prelude.{◌≡◌, ◌⊎◌, ◌≤◌, ◌<◌, ◌-◌, ℕ, false, List, [], Option, None, Some, slice_get, unwrap_or, length, take}
use Rattle.event_loop.specs.Names.{Connection, connection_at, untaken, is_closing, IsHeld, Forgotten, SeenEdge, GoesOn, Free, Open, Queue, Told, Empty, Barred, Asked, Waits, AreLeftOfReply, Leaving}
use Rattle.outside.specs.declared.clocks.Times.{Times}
use Rattle.event_loop.specs.declared.place.Place.{Place}
use Rattle.outside.specs.Calls as call
use Rattle.event_loop.specs.Progress.{known, led}
use Rattle.event_loop.specs.Noting.{Noted, NotesEnd}
use Rattle.event_loop.specs.Places.{IsOccupied, IsOneLeaving, IsOver, IsStaying}
use Rattle.event_loop.specs.LoopStates.{Promises, LoopState, with_call, with_place}

-- none at the places took no byte for longer
abbrev pub IsSilentLongest : List Place → Place → Type 0
IsSilentLongest places place = (j : ℕ) (other : Place) → slice_get places j ≡ Some other → IsOccupied other.stage → place.since ≤ other.since

-- each took a byte of a reply within so many seconds
abbrev pub AreWithin : ℕ → Times → List Place → Type 0
AreWithin limit times places = (k : ℕ) (place : Place) → slice_get places k ≡ Some place → IsOccupied place.stage → times.steady - place.since ≤ limit

-- It is right behind a reply: since the last wait it took the last of its output, so no reply is owed to it.
pub record IsBehindReply (turn : ℕ) (place : Place) (connection : Option Connection) : Type 0 where
  pub taken : IsOccupied place.stage
  pub lately : place.turn ≡ turn
  pub nothing_owed : untaken connection ≡ []

-- it is served still, does not make room, and is owed replies
pub record IsOwed (place : Place) (connection : Option Connection) : Type 0 where
  pub stays : IsStaying place.stage
  pub some_left : 0 < length (untaken connection)

-- It was owed replies, and no part of one: none is begun, or it makes room and took what was left of one.
pub data HasWhole (place : Place) (connection : Option Connection) : Type 0 where
  none_begun : IsOwed place connection → AreLeftOfReply connection 0 → HasWhole place connection
  took_rest : (left : ℕ) → place.stage ≡ Leaving left → take left (untaken connection) ≡ [] → HasWhole place connection

-- it holds of the connection at the place, and of none that came before
pub record IsEldest (P : Place → Option Connection → Type 0) (places : List Place) (connections : List Connection)
    (k : ℕ) (place : Place) : Type 0 where
  pub holds : P place (connection_at connections k)
  pub eldest : (j : ℕ) (other : Place) → slice_get places j ≡ Some other → P other (connection_at connections j) →
      place.came ≤ other.came

-- each of which it holds came within so many seconds
abbrev pub AreBrief : (Place → Option Connection → Type 0) → ℕ → Times → List Place → List Connection → Type 0
AreBrief P limit times places connections = (k : ℕ) (place : Place) → slice_get places k ≡ Some place →
    P place (connection_at connections k) → times.steady - place.came ≤ limit

-- where another connection waits, nobody is there for longer than the limit who is right behind a reply, nor who is owed some, but
-- where one was chosen to make room, no longer ago than the limit
pub record IsRoomMade (turn limit : ℕ) (times : Times) (places : List Place) (connections : List Connection) : Type 0 where
  pub behind : AreBrief (IsBehindReply turn) limit times places connections
  pub owed : AreBrief IsOwed limit times places connections ⊎ IsOneLeaving limit times places

-- Why the connection at a place is closed: it is over; it took no byte of a reply for longer than the limit; or all places
-- are taken, another connection waits, and it is silent longest, for longer than the other limit, or it is there for longer
-- than that, however busy, and longest of those that are right behind a reply, or of those that are owed some, none of which it
-- began to take: these were made, and are forgotten with it. Of the seconds that are counted the first may be short, so more are
-- counted than the limit has.
pub data Cause {N C J K H : Type 0} (s : LoopState N C J K H) (k : ℕ) (place : Place) : Type 0 where
  is_over : IsOver place (known s.progress k) → Cause s k place
  is_silent : s.limits.idle < s.times.steady - place.since → Cause s k place
  gives_way : s.queue ≡ Waits → s.limits.crowded < s.times.steady - place.since → IsSilentLongest s.places place → Cause s k place
  makes_room : s.queue ≡ Waits → s.limits.crowded < s.times.steady - place.came →
      IsEldest (IsBehindReply s.turn) s.places s.progress.journey.world.connections k place → Cause s k place
  leaves_rest : s.queue ≡ Waits → s.limits.crowded < s.times.steady - place.came → IsEldest IsOwed s.places s.progress.journey.world.connections k place →
      ¬ (IsOneLeaving s.limits.crowded s.times s.places) → AreLeftOfReply (known s.progress k) 0 → Cause s k place

-- It is between two requests: no reply is owed to it, and nothing of a request that is not whole was read of it.
pub record IsBetween (place : Place) (connection : Option Connection) : Type 0 where
  pub is_open : place.stage ≡ Open
  pub stays : is_closing connection ≡ false
  pub nothing_held : IsHeld connection 0
  pub nothing_owed : untaken connection ≡ []

-- so is each connection that is there
abbrev pub AreBetween : List Place → List Connection → Type 0
AreBetween places connections = (k : ℕ) (place : Place) → slice_get places k ≡ Some place → IsOccupied place.stage → IsBetween place (connection_at connections k)

-- a reload is wanted, and all that are there are between two requests, or it is wanted for longer than so many seconds
pub record IsTimeToReload (reload : Option ℕ) (limit : ℕ) (times : Times) (places : List Place) (connections : List Connection) : Type 0 where
  pub since : ℕ
  pub wanted : reload ≡ Some since
  pub ready : AreBetween places connections ⊎ (limit < times.steady - since)

-- since when a reload is wanted, where it is now
abbrev pub asked_since : Option ℕ → ℕ → Option ℕ
asked_since since now = Some (unwrap_or since now)

-- the queue when a connection went
abbrev pub freed_queue : Queue → Queue
freed_queue (Barred since) = Told
freed_queue Waits = Told
freed_queue Asked = Empty
freed_queue queue = queue

-- A connection is closed and forgotten, its fault is noted, and its place is free.
pub data Closes {N C J K H : Type 0} (p : Promises N C J K H) (k : ℕ) (place : Place) (s : LoopState N C J K H) : LoopState N C J K H → Type 0 where
  leaves : (n : N) (e : SeenEdge H) (on : GoesOn p.hosting e s.progress.journey (Forgotten k)) (noted : Noted J) →
      p.sockets.does s.sockets (call.Closed k) n → NotesEnd p.journal place.stage s.times.steady s.noted noted →
      Closes p k place s (record (with_place (with_call s (call.Closed k) n) k (record place { stage = Free }))
      { progress = led s.progress on; noted = noted; queue = freed_queue s.queue })

-- A connection is handed on to whoever serves next, and forgotten, and its place is free.
pub data Passes {N C J K H : Type 0} (p : Promises N C J K H) (k : ℕ) (place : Place) (s : LoopState N C J K H) : LoopState N C J K H → Type 0 where
  hands_on : (n : N) (e : SeenEdge H) (on : GoesOn p.hosting e s.progress.journey (Forgotten k)) → p.sockets.does s.sockets (call.Passed k) n →
      Passes p k place s (record (with_place (with_call s (call.Passed k) n) k (record place { stage = Free }))
      { progress = led s.progress on; queue = freed_queue s.queue })
