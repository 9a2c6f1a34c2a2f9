-- What is to be done at a place.
use Rattle.std.specs.Prelude.{◌≡◌, ◌≤◌, ◌<◌, ◌-◌, ℕ, take, Bool, true, false, List, [], Option, Some, count_by, length, slice_get, ⊤}
use Rattle.event_loop.specs.Names.{Connection, untaken, is_closing, ConnectionFault, Stage, Free, Open, Ended, Leaving, Broken}
use Rattle.outside.specs.declared.clocks.Times.{Times}
use Rattle.event_loop.specs.declared.place.Place.{Place}

-- so many connections are served at once
abbrev pub places_limit : ℕ
places_limit = 64

-- so much may be found ready at once: the listener, and each connection
abbrev pub ready_limit : ℕ
ready_limit = 65

-- so often it is looked again between two waits
abbrev pub looks_limit : ℕ
looks_limit = 3

-- so many bytes are read at once
abbrev pub read_limit : ℕ
read_limit = 16384

-- where more bytes than that were not taken of a connection's output, it is not read
abbrev pub backlog_limit : ℕ
backlog_limit = 65536

-- a connection is there
abbrev pub IsOccupied : Stage → Type 0
IsOccupied Free = ⊥
IsOccupied stage = ⊤

abbrev pub is_taken : Stage → Bool
is_taken Free = false
is_taken stage = true

-- it is served
abbrev pub IsInService : Stage → Type 0
IsInService Open = ⊤
IsInService Ended = ⊤
IsInService (Leaving left) = ⊤
IsInService stage = ⊥

-- it is, and does not make room
abbrev pub IsStaying : Stage → Type 0
IsStaying Open = ⊤
IsStaying Ended = ⊤
IsStaying stage = ⊥

-- what is to be written of output that is left: where it makes room, no more than up to the end of a reply
abbrev pub to_offer : Stage → List ℕ → List ℕ
to_offer (Leaving left) bytes = take left bytes
to_offer stage bytes = bytes

-- the stage once so many bytes were taken
abbrev pub taken_stage : Stage → ℕ → Stage
taken_stage (Leaving left) count = Leaving (left - count)
taken_stage stage count = stage

-- The place's connection, as the edge knows it, is to be read: the edge didn't give it the 400 of a faulty head, and its
-- backlog is small
pub record MayRead (p : Place) (connection : Option Connection) : Type 0 where
  pub is_open : p.stage ≡ Open
  pub stays : is_closing connection ≡ false
  pub small : length (untaken connection) ≤ backlog_limit

-- output is to be written for it
pub record MayWrite (p : Place) (connection : Option Connection) : Type 0 where
  pub served : IsInService p.stage
  pub some_left : 0 < length (to_offer p.stage (untaken connection))

-- one makes room, which was chosen for that so many seconds ago, or fewer
pub record IsOneLeaving (limit : ℕ) (times : Times) (places : List Place) : Type 0 where
  pub k : ℕ
  pub place : Place
  pub here : slice_get places k ≡ Some place
  pub left : ℕ
  pub leaving : place.stage ≡ Leaving left
  pub lately : times.steady - place.came ≤ limit

-- nothing is left to be done for it: a fault ended it, or all output is written and it sends no more or had the 400 of a faulty
-- head, or it makes room and the reply that it was taking is written
pub data IsOver (p : Place) (connection : Option Connection) : Type 0 where
  broken : (fault : ConnectionFault) → p.stage ≡ Broken fault → IsOver p connection
  ended : p.stage ≡ Ended → untaken connection ≡ [] → IsOver p connection
  leaves : (left : ℕ) → p.stage ≡ Leaving left → take left (untaken connection) ≡ [] → IsOver p connection
  dismissed : p.stage ≡ Open → is_closing connection ≡ true → untaken connection ≡ [] → IsOver p connection

-- no read is to be done now
abbrev pub NeedsNoRead : Place → Option Connection → Type 0
NeedsNoRead p connection = p.readable ≡ true → ¬ (MayRead p connection)

-- no write is to be done now
abbrev pub NeedsNoWrite : Place → Option Connection → Type 0
NeedsNoWrite p connection = p.writable ≡ true → ¬ (MayWrite p connection)

-- nothing is to be done now
pub record IsPlaceAtRest (p : Place) (connection : Option Connection) : Type 0 where
  pub unread : NeedsNoRead p connection
  pub unwritten : NeedsNoWrite p connection
  pub goes_on : ¬ (IsOver p connection)

-- ALL PLACES

abbrev pub IsFreeAt : List Place → ℕ → Type 0
IsFreeAt places k = (place : Place) → slice_get places k ≡ Some place → place.stage ≡ Free

-- no connection is there
abbrev pub AllFree : List Place → Type 0
AllFree places = (k : ℕ) → IsFreeAt places k

-- how many connections are there
abbrev pub open_count : List Place → ℕ
open_count places = count_by (λ place. is_taken place.stage) places

-- a connection is at each place
abbrev pub AllTaken : List Place → Type 0
AllTaken places = (k : ℕ) (place : Place) → slice_get places k ≡ Some place → IsOccupied place.stage
