-- What is done for one connection, step by step.
use Rattle.std.specs.Prelude.{◌≡◌, ◌⊎◌, ◌≤◌, ◌<◌, ◌+◌, ℕ, List, [], Bool, true, false, Option, Some, None, Result, Ok, Err, length, take, ⊤}
use Rattle.rand_chacha.specs.ChaCha.{ChaCha}
use Rattle.hook_host.specs.declared.host.HookHost.{Ghosts as Hosting}
use Rattle.http_edge.specs.Schedule.{World, Happening, Opened, HasEnded, Taken, Forgotten, connection_at, piece_of}
use Rattle.http_edge.specs.Lanes.{lane_at}
use Rattle.http_edge.specs.Edges.{SeenEdge, output_of}
use Rattle.http_edge.specs.Refusals.{IsOpeningRefusal, IsEndingRefusal}
use Rattle.http_edge.specs.Reached.{Journey, Reached, HappeningLeads, is_closing, led_on}
use Rattle.http_edge.specs.Pieces.{WhereReached, PieceGiven, RefusesPiece, supplied}
use Rattle.telling.specs.Audience.{Audience, nobody}
use Rattle.serving.specs.contracts.piece_draws.PieceDrawsDrawSource.TheImpl as piece_sources
use Rattle.serving.specs.declared.piece_draws.PieceDraws.{PieceDraws}
use Rattle.serving.specs.PieceDraws.{piece_draws, draws_in_piece, behind_piece}
use Rattle.serving.specs.Streams.{Doing, Received, ReadFailed, Sent, WriteFailed}
use Rattle.http_edge.specs.declared.fault.EdgeFault.{EdgeFault}
use Rattle.serving.specs.declared.fault.ServeFault.{ServeFault}
use Rattle.serving.specs.declared.fault.ServeFault.TheVariants as Fault

-- so many bytes has a piece at most
abbrev pub stream_piece_limit : ℕ
stream_piece_limit = 512

-- so many pieces are read of one connection at most
abbrev pub pieces_limit : ℕ
pieces_limit = 1048576

-- what is promised where one connection is served: what the server's host does, what the stream does, and its number
pub record StreamService (H S : Type 0) : Type 1 where
  pub hosting : Hosting H
  pub does : S → Doing → S → Type 0
  pub connection : ℕ

abbrev pub stream_service : {H S : Type 0} → Hosting H → (S → Doing → S → Type 0) → ℕ → StreamService H S
stream_service hosting does c = record { hosting = hosting; does = does; connection = c }

-- how far the service is: so many pieces were read and answered; no more is read; the edge knows that; it ended, with a
-- fault or none; the connection was forgotten
pub data Stage : Type 0 where
  Coming : Stage
  Reading : (pieces : ℕ) → Stage
  Finished : Stage
  Ended : Stage
  Served : (fault : Option ServeFault) → Stage
  Left : (fault : Option ServeFault) → Stage

-- a stage, and what a connection is served with then
pub record ServingScene (H S C : Type 0) : Type 0 where
  pub stage : Stage
  pub edge : SeenEdge H
  pub stream : S
  pub clock : C
  pub generator : ChaCha

abbrev pub serving_scene : {H S C : Type 0} → Stage → SeenEdge H → S → C → ChaCha → ServingScene H S C
serving_scene stage edge stream clock g = record { stage = stage; edge = edge; stream = stream; clock = clock; generator = g }

-- output is written while a connection is read, and behind its end
abbrev pub MayWriteAt : Stage → Type 0
MayWriteAt (Reading n) = ⊤
MayWriteAt Ended = ⊤
MayWriteAt stage = ⊥

-- the connection had the 400 of a faulty head, or not
abbrev pub ClosingIs : {H : Type 0} → Hosting H → SeenEdge H → ℕ → Bool → Type 0
ClosingIs hosting edge c closing = WhereReached hosting edge (λ connections. closing ≡ is_closing (connection_at connections c))

-- all output is written, and the connection is not to be closed
pub record IsAttentive {H : Type 0} (hosting : Hosting H) (edge : SeenEdge H) (c : ℕ) : Type 0 where
  pub written : output_of edge c ≡ []
  pub stays : ClosingIs hosting edge c false

-- an edge, and a stream to which its output is written
pub record EdgeStream (H S : Type 0) : Type 0 where
  pub edge : SeenEdge H
  pub stream : S

abbrev pub edge_stream : {H S : Type 0} → SeenEdge H → S → EdgeStream H S
edge_stream edge stream = record { edge = edge; stream = stream }

-- fronts of the output are written, one after another, and just as much is taken
pub data WritesFronts {H S : Type 0} (t : StreamService H S) (first : EdgeStream H S) : EdgeStream H S → Type 0 where
  none : WritesFronts t first first
  more : {e e' : SeenEdge H} {s s' : S} (n : ℕ) → WritesFronts t first (edge_stream e s) → 0 < n → n ≤ length (output_of e t.connection) →
      t.does s (Sent (take n (output_of e t.connection))) s' → HappeningLeads t.hosting e e' (Taken t.connection n) →
      WritesFronts t first (edge_stream e' s')

-- all of it
pub record IsWritten {H S : Type 0} (t : StreamService H S) (old new : EdgeStream H S) : Type 0 where
  pub writes : WritesFronts t old new
  pub all : output_of new.edge t.connection ≡ []

-- not all of it, and then a write fails or takes no byte
pub record WriteFails {H S : Type 0} (t : StreamService H S) (old new : EdgeStream H S) : Type 0 where
  pub before : S
  pub writes : WritesFronts t old (edge_stream new.edge before)
  pub some_left : 0 < length (output_of new.edge t.connection)
  pub fails : t.does before WriteFailed new.stream ⊎ t.does before (Sent []) new.stream

-- What may be done at a stage, and the stage that comes of it. A piece that is read has its own draws: the generator stands
-- behind all of them from then on, also where the piece is refused, or the clock tells no moment for it. Nothing else moves it.
pub data ServingStep {H S C : Type 0} (t : StreamService H S) (tells : C → Option ℕ → C → Type 0) : ServingScene H S C → ServingScene H S C → Type 0 where
  opens : {e e' : SeenEdge H} {s : S} {k : C} {g : ChaCha} → HappeningLeads t.hosting e e' (Opened t.connection) →
      ServingStep t tells (serving_scene Coming e s k g) (serving_scene (Reading 0) e' s k g)
  denies : {e : SeenEdge H} {s : S} {k : C} {g : ChaCha} (fault : EdgeFault) →
      WhereReached t.hosting e (λ connections. IsOpeningRefusal fault connections t.connection) →
      ServingStep t tells (serving_scene Coming e s k g) (serving_scene (Left (Some (Fault.Refused fault))) e s k g)
  -- a piece was read, and given with its draws at the moment that the clock told
  hears : {e e' : SeenEdge H} {s s' : S} {k k' : C} {g : ChaCha} {left : PieceDraws} {told : Audience} (n : ℕ) (piece : List ℕ) (moment : ℕ) → n < pieces_limit →
      IsAttentive t.hosting e t.connection →
      0 < length piece → length piece ≤ stream_piece_limit → t.does s (Received piece) s' → tells k (Some moment) k' →
      PieceGiven t.hosting piece_sources.ghosts (supplied e (piece_draws g) nobody) (piece_of t.connection piece moment) (supplied e' left told) →
      ServingStep t tells (serving_scene (Reading n) e s k g) (serving_scene (Reading (n + 1)) e' s' k' (behind_piece g))
  refuses : {e : SeenEdge H} {s s' : S} {k k' : C} {g : ChaCha} (n : ℕ) (piece : List ℕ) (moment : ℕ) (fault : EdgeFault) → n < pieces_limit →
      IsAttentive t.hosting e t.connection →
      0 < length piece → length piece ≤ stream_piece_limit → t.does s (Received piece) s' → tells k (Some moment) k' →
      RefusesPiece t.hosting e (piece_of t.connection piece moment) (Some draws_in_piece) fault →
      ServingStep t tells (serving_scene (Reading n) e s k g) (serving_scene (Served (Some (Fault.Refused fault))) e s' k' (behind_piece g))
  loses_time : {e : SeenEdge H} {s s' : S} {k k' : C} {g : ChaCha} (n : ℕ) (piece : List ℕ) → n < pieces_limit → IsAttentive t.hosting e t.connection →
      0 < length piece → length piece ≤ stream_piece_limit → t.does s (Received piece) s' → tells k None k' →
      ServingStep t tells (serving_scene (Reading n) e s k g) (serving_scene (Served (Some Fault.Clock)) e s' k' (behind_piece g))
  breaks : {e : SeenEdge H} {s s' : S} {k : C} {g : ChaCha} (n : ℕ) → n < pieces_limit → IsAttentive t.hosting e t.connection → t.does s ReadFailed s' →
      ServingStep t tells (serving_scene (Reading n) e s k g) (serving_scene (Served (Some Fault.Read)) e s' k g)
  -- the stream has no more, or so many pieces were read
  finishes : {e : SeenEdge H} {s s' : S} {k : C} {g : ChaCha} (n : ℕ) → n < pieces_limit → IsAttentive t.hosting e t.connection → t.does s (Received []) s' →
      ServingStep t tells (serving_scene (Reading n) e s k g) (serving_scene Finished e s' k g)
  stops : {e : SeenEdge H} {s : S} {k : C} {g : ChaCha} →
      ServingStep t tells (serving_scene (Reading pieces_limit) e s k g) (serving_scene Finished e s k g)
  -- the 400 of a faulty head is written
  closes : {e : SeenEdge H} {s : S} {k : C} {g : ChaCha} (n : ℕ) → output_of e t.connection ≡ [] → ClosingIs t.hosting e t.connection true →
      ServingStep t tells (serving_scene (Reading n) e s k g) (serving_scene (Served None) e s k g)
  ends : {e e' : SeenEdge H} {s : S} {k : C} {g : ChaCha} → HappeningLeads t.hosting e e' (HasEnded t.connection) →
      ServingStep t tells (serving_scene Finished e s k g) (serving_scene Ended e' s k g)
  ends_nothing : {e : SeenEdge H} {s : S} {k : C} {g : ChaCha} (fault : EdgeFault) →
      WhereReached t.hosting e (λ connections. IsEndingRefusal fault connections t.connection) →
      ServingStep t tells (serving_scene Finished e s k g) (serving_scene (Served (Some (Fault.Refused fault))) e s k g)
  is_over : {e : SeenEdge H} {s : S} {k : C} {g : ChaCha} → output_of e t.connection ≡ [] →
      ServingStep t tells (serving_scene Ended e s k g) (serving_scene (Served None) e s k g)
  writes : {e e' : SeenEdge H} {s s' : S} {k : C} {g : ChaCha} (stage : Stage) → MayWriteAt stage → IsWritten t (edge_stream e s) (edge_stream e' s') →
      ServingStep t tells (serving_scene stage e s k g) (serving_scene stage e' s' k g)
  fails_to_write : {e e' : SeenEdge H} {s s' : S} {k : C} {g : ChaCha} (stage : Stage) → MayWriteAt stage → WriteFails t (edge_stream e s) (edge_stream e' s') →
      ServingStep t tells (serving_scene stage e s k g) (serving_scene (Served (Some Fault.Write)) e' s' k g)
  forgets : {e e' : SeenEdge H} {s : S} {k : C} {g : ChaCha} (fault : Option ServeFault) → HappeningLeads t.hosting e e' (Forgotten t.connection) →
      lane_at e'.lanes t.connection ≡ None →
      ServingStep t tells (serving_scene (Served fault) e s k g) (serving_scene (Left fault) e' s k g)

-- step by step
pub data Runs {H S C : Type 0} (t : StreamService H S) (tells : C → Option ℕ → C → Type 0) (first : ServingScene H S C) : ServingScene H S C → Type 0 where
  begins : Runs t tells first first
  goes : {old new : ServingScene H S C} → Runs t tells first old → ServingStep t tells old new → Runs t tells first new

-- the fault, if any
abbrev pub any_fault : {T : Type 0} → Result T ServeFault → Option ServeFault
any_fault (Ok x) = None
any_fault (Err fault) = Some fault

-- events more lead on from a journey
pub record LeadsOn {H : Type 0} (hosting : Hosting H) (edge : SeenEdge H) (journey : Journey H) : Type 0 where
  pub events : List Happening
  pub world : World
  pub reached : Reached hosting edge (led_on journey events world)
