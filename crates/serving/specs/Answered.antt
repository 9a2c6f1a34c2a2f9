-- What was written to a stream answers what was read from it.
use Rattle.std.specs.Prelude.{◌≡◌, ◌≤◌, ◌⊎◌, ℕ, List, [], Option, Some, None, length}
use Rattle.http_edge.specs.Schedule.{World, Connection, Happening, Forgotten, connection_at, untaken}
use Rattle.http_edge.specs.Edges.{SeenEdge}
use Rattle.http_edge.specs.Refusals.{IsOpeningRefusal}
use Rattle.http_edge.specs.Reached.{Journey, Reached, GoesOn, led_on}
use Rattle.http_edge.specs.declared.fault.EdgeFault.{EdgeFault}
use Rattle.serving.specs.Streams.{Carries}
use Rattle.serving.specs.Talks.{Talk}
use Rattle.serving.specs.Served.{EdgeStream, StreamService, edge_stream, stream_piece_limit}
use Rattle.serving.specs.declared.fault.ServeFault.{ServeFault}
use Rattle.serving.specs.declared.fault.ServeFault.TheVariants as Fault

-- What came and went on a stream, which is a talk, and how the connection stands then.
pub record StreamExchange {H S : Type 0} (t : StreamService H S) (journey : Journey H) (old : S) (new : EdgeStream H S) (lost : List ℕ) : Type 0 where
  pub heard : List ℕ
  pub written : List ℕ
  pub carries : Carries t.does old heard written new.stream
  pub events : List Happening
  pub world : World
  pub reached : Reached t.hosting new.edge (led_on journey events world)
  pub talk : Talk heard written lost (connection_at world.connections t.connection)

-- what was read and did not come to the edge: a last piece, which the edge refused or the clock had no moment for
abbrev pub MayLose : Option ServeFault → List ℕ → Type 0
MayLose (Some (Fault.Refused fault)) lost = length lost ≤ stream_piece_limit
MayLose (Some Fault.Clock) lost = length lost ≤ stream_piece_limit
MayLose fault lost = lost ≡ []

-- a connection was opened, served up to this fault or to its end, and forgotten; at its end all its output is written
pub record IsConnectionServed {H S : Type 0} (t : StreamService H S) (journey : Journey H) (old : S) (fault : Option ServeFault) (new : EdgeStream H S) :
    Type 0 where
  pub before : SeenEdge H
  pub lost : List ℕ
  pub may_lose : MayLose fault lost
  pub exchange : StreamExchange t journey old (edge_stream before new.stream) lost
  pub all : fault ≡ None → untaken (Some exchange.talk.connection) ≡ []
  pub forgotten : GoesOn t.hosting new.edge (led_on journey exchange.events exchange.world) (Forgotten t.connection)

-- it could not be opened, and nothing was done
pub record IsDenied {H S : Type 0} (c : ℕ) (connections : List Connection) (old : EdgeStream H S) (fault : Option ServeFault) (new : EdgeStream H S) :
    Type 0 where
  pub cause : EdgeFault
  pub is_fault : fault ≡ Some (Fault.Refused cause)
  pub is_refusal : IsOpeningRefusal cause connections c
  pub same_edge : new.edge ≡ old.edge
  pub same_stream : new.stream ≡ old.stream

-- wherever the edge was reached
abbrev pub ServesConnection : {H S : Type 0} → StreamService H S → EdgeStream H S → Option ServeFault → EdgeStream H S → Type 0
ServesConnection t old fault new =
    (journey : Journey _) → Reached t.hosting old.edge journey →
    IsDenied t.connection journey.world.connections old fault new ⊎ IsConnectionServed t journey old.stream fault new
