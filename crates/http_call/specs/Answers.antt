-- How a response is read: what came, and the steps of the client of `http1` over it.
use Rattle.std.specs.Prelude.{◌≡◌, List, ℕ, [], ◌++◌, drop, Option}
use Rattle.std.specs.Io.KnownBytes.{Consumes}
use Rattle.http1.specs.Client.{ClientReads}
use Rattle.http1.specs.declared.client.Client.{Client}
use Rattle.http1.specs.declared.conn.Event.{Event}
use Rattle.http1.specs.declared.conn.Event.TheVariants.{NeedMore, Head, Informational, Data, End, Paused, Upgraded, Closed}
use Rattle.http1.specs.declared.conn.Progress.{Progress}
use Rattle.httparse.specs.Spans.{span_bytes}
use Rattle.httparse.specs.declared.spans.HeaderSpan.{HeaderSpan}
use Rattle.httparse.specs.declared.spans.ResponseSpans.{ResponseSpans}
use Rattle.http_call.specs.declared.call.Caller.{Caller}
use Rattle.http_call.specs.declared.call.Response.{Response}

-- where the reading of a response stands: what came and is not read, the status, and the body so far
pub record Reading : Type 0 where
  pub client : Client
  pub unread : List ℕ
  pub status : ℕ
  pub body : List ℕ

-- nothing of it was read
abbrev pub begun : {S : Type 0} → Caller S → Reading
begun caller = record { client = caller.client; unread = caller.unread.items; status = 0; body = [] }

abbrev pub reading : {S : Type 0} → Caller S → Response → Reading
reading caller response = record { client = caller.client; unread = caller.unread.items; status = response.status; body = response.body.items }

-- what an event tells
abbrev pub status_by : Event ResponseSpans → ℕ → ℕ
status_by (Head head) status = head.code
status_by event status = status

abbrev pub body_by : Event ResponseSpans → List ℕ → List ℕ → List ℕ
body_by (Data span) unread body = body ++ span_bytes unread span
body_by event unread body = body

-- a response goes on behind it
abbrev pub GoesOn : Event ResponseSpans → Type 0
GoesOn NeedMore = Unit {0}
GoesOn (Head head) = Unit {0}
GoesOn (Informational head) = Unit {0}
GoesOn (Data span) = Unit {0}
GoesOn (End count) = ⊥
GoesOn Paused = ⊥
GoesOn Upgraded = ⊥
GoesOn Closed = ⊥

-- behind a step of the client
abbrev pub behind : Client → Progress ResponseSpans → Reading → Reading
behind client read at = record {
  client = client;
  unread = drop read.consumed at.unread;
  status = status_by read.event at.status;
  body = body_by read.event at.unread at.body;
}

-- more came
abbrev pub with_more : List ℕ → Reading → Reading
with_more more at = record at { unread = at.unread ++ more }

-- one step, and perhaps more bytes behind it
pub data Steps (at : Reading) : List ℕ → Reading → Type 0 where
  reads : (spans : List HeaderSpan) (client : Client) (read : Progress ResponseSpans) → ClientReads at.client at.unread spans client read → GoesOn read.event
      → Steps at [] (behind client read at)
  reads_more : (spans : List HeaderSpan) (client : Client) (read : Progress ResponseSpans) (more : List ℕ) → ClientReads at.client at.unread spans client read
      → GoesOn read.event → Steps at more (with_more more (behind client read at))

-- the last step
pub record Ends (at now : Reading) : Type 0 where
  pub spans : List HeaderSpan
  pub client : Client
  pub read : Progress ResponseSpans
  pub count : ℕ
  pub reads : ClientReads at.client at.unread spans client read
  pub end : read.event ≡ End count
  pub is : now ≡ behind client read at

-- steps, and all that came meanwhile
pub data Runs (first : Reading) : List ℕ → Reading → Type 0 where
  none : Runs first [] first
  more : {at now : Reading} {came some : List ℕ} → Runs first came at → Steps at some now → Runs first (came ++ some) now

-- A response, read from its first byte to its last by these steps.
pub record Comes (first : Reading) (came : List ℕ) (last : Reading) : Type 0 where
  pub at : Reading
  pub runs : Runs first came at
  pub ends : Ends at last

-- of bytes that came
abbrev pub Grows : Option (List ℕ) → Option (List ℕ) → Reading → Reading → Type 0
Grows old new at now = (came : List ℕ) × Consumes old new came × Steps at came now

abbrev pub Answers : Option (List ℕ) → Option (List ℕ) → Reading → Reading → Type 0
Answers old new first last = (came : List ℕ) × Consumes old new came × Comes first came last

abbrev pub HasRun : Option (List ℕ) → Option (List ℕ) → Reading → Reading → Type 0
HasRun old new first at = (came : List ℕ) × Consumes old new came × Runs first came at
