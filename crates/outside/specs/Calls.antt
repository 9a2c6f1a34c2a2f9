-- The calls that the loop makes.
use Rattle.std.specs.Prelude.{◌≡◌, ◌⊎◌, ℕ, suc, ◌≤◌, ◌<◌, List, [], ◌∷◌, length, take, Option, Some, None, ⊤}
use Rattle.outside.specs.declared.sockets.Ready.{Ready}
use Rattle.outside.specs.declared.sockets.Accepted.{Accepted}
use Rattle.outside.specs.declared.sockets.Received.{Received}
use Rattle.outside.specs.declared.sockets.Received.TheVariants as received
use Rattle.outside.specs.declared.sockets.Sent.{Sent}
use Rattle.outside.specs.declared.sockets.Sent.TheVariants as sent

-- what a read or a write passed: bytes; or the stream's end came, or nothing can be passed yet, or it failed
pub data Transfer : Type 0 where
  Bytes : (bytes : List ℕ) → Transfer
  End : Transfer
  Nothing : Transfer
  Failed : Transfer

-- One call of the sockets, and what came of it. A wait has its limit in milliseconds, how much it had room for, and what
-- it found ready; the others have the place of their connection, a read how many bytes it had room for, and a write how many
-- it offered; a connection is closed, or handed on to whoever serves next. Or it was looked again without waiting what is ready, the how-manieth time since the last wait, from 0 on, and found
-- that, or failed; or what was unkept was given to the keeper, and is kept; or the keeper confirmed that nobody else had begun; or it kept its place, and told by when
-- it wants to be called again; or it went on by a slice to shorten what it keeps.
pub data Call : Type 0 where
  Waited : (limit : Option ℕ) → (room : ℕ) → (found : List Ready) → Call
  WaitFailed : (limit : Option ℕ) → (room : ℕ) → Call
  Looked : (nth room : ℕ) → (came : Option (List Ready)) → Call
  Asked : Call
  Tried : (k : ℕ) → (came : Accepted) → Call
  Read : (k room : ℕ) → (came : Transfer) → Call
  Wrote : (k room : ℕ) → (took : Transfer) → Call
  Closed : (k : ℕ) → Call
  Passed : (k : ℕ) → Call
  Kept : Call
  Confirmed : Call
  Tended : (due : Option ℕ) → Call
  Shortened : Call

abbrev pub wait_call : Option ℕ → Option ℕ → List Ready → Call
wait_call limit (Some n) found = Waited limit (length found) (take n found)
wait_call limit None found = WaitFailed limit (length found)

abbrev pub FindsWithin : Option ℕ → ℕ → Type 0
FindsWithin (Some n) room = n ≤ room
FindsWithin None room = ⊤

abbrev pub read_call : Received → ℕ → List ℕ → Call
read_call (received.Bytes n) k buffer = Read k (length buffer) (Bytes (take n buffer))
read_call received.End k buffer = Read k (length buffer) End
read_call received.Later k buffer = Read k (length buffer) Nothing
read_call received.Failed k buffer = Read k (length buffer) Failed

abbrev pub ReadsWithin : Received → ℕ → Type 0
ReadsWithin (received.Bytes n) room = (0 < n) × (n ≤ room)
ReadsWithin result room = ⊤

abbrev pub write_call : Sent → ℕ → List ℕ → Call
write_call (sent.Bytes n) k bytes = Wrote k (length bytes) (Bytes (take n bytes))
write_call sent.Later k bytes = Wrote k (length bytes) Nothing
write_call sent.Failed k bytes = Wrote k (length bytes) Failed

abbrev pub SendsWithin : Sent → ℕ → Type 0
SendsWithin (sent.Bytes n) room = (0 < n) × (n ≤ room)
SendsWithin result room = ⊤

-- how often was waited; the last call is the first
abbrev pub waits : List Call → ℕ
waits [] = 0
waits (Waited limit room found ∷ earlier) = suc (waits earlier)
waits (call ∷ earlier) = waits earlier

-- how much was done since the last wait, for connections, or to shorten what is kept
abbrev pub done_since : List Call → ℕ
done_since [] = 0
done_since (Waited limit room found ∷ earlier) = 0
done_since (Looked nth room came ∷ earlier) = done_since earlier
done_since (Kept ∷ earlier) = done_since earlier
done_since (Confirmed ∷ earlier) = done_since earlier
done_since (Tended due ∷ earlier) = done_since earlier
done_since (call ∷ earlier) = suc (done_since earlier)

-- what is called for again and again: a place is read, it is looked again the how-manieth time, what is unkept is kept, a place is written to, connections are accepted, and
-- what is kept is shortened by a slice
pub data CallKind : Type 0 where
  Reading : (k : ℕ) → CallKind
  Looking : (nth : ℕ) → CallKind
  Keeping : CallKind
  Writing : (k : ℕ) → CallKind
  Accepting : CallKind
  Shortening : CallKind

-- of which kind a call is, whatever came of it
abbrev pub kind_of : Call → Option CallKind
kind_of Asked = Some Accepting
kind_of (Tried k came) = Some Accepting
kind_of (Read k room came) = Some (Reading k)
kind_of (Looked nth room came) = Some (Looking nth)
kind_of (Wrote k room took) = Some (Writing k)
kind_of Kept = Some Keeping
kind_of Shortened = Some Shortening
kind_of call = None

-- a call of the kind was made since the last wait
abbrev pub IsDone : CallKind → List Call → Type 0
IsDone kind [] = ⊥
IsDone kind (Waited limit room found ∷ earlier) = ⊥
IsDone kind (call ∷ earlier) = (kind_of call ≡ Some kind) ⊎ IsDone kind earlier

-- Since the last wait, behind the last read, the keeper was asked, and told that nobody else had begun: it kept what was unkept, or confirmed.
abbrev pub IsConfirmed : List Call → Type 0
IsConfirmed [] = ⊥
IsConfirmed (Waited limit room found ∷ earlier) = ⊥
IsConfirmed (Read k room came ∷ earlier) = ⊥
IsConfirmed (Kept ∷ earlier) = ⊤
IsConfirmed (Confirmed ∷ earlier) = ⊤
IsConfirmed (call ∷ earlier) = IsConfirmed earlier

-- how often was read
abbrev pub reads : List Call → ℕ
reads [] = 0
reads (Read k room came ∷ earlier) = suc (reads earlier)
reads (call ∷ earlier) = reads earlier

-- by when the keeper wants to be called again, as it told since the last wait
abbrev pub told_since : List Call → Option (Option ℕ)
told_since [] = None
told_since (Waited limit room found ∷ earlier) = None
told_since (Tended due ∷ earlier) = Some due
told_since (call ∷ earlier) = told_since earlier
