-- Pieces that are given to an edge with draws of a source.
use Rattle.std.specs.Prelude.{◌≡◌, ◌⊎◌, ℕ, List, [], true, Option, length}
use Rattle.http_edge.specs.Names.{Hosting, Message, Sources, EdgeFault}
use Rattle.http_edge.specs.Schedule.{Connection, Piece, connection_at}
use Rattle.http_edge.specs.Edges.{SeenEdge}
use Rattle.http_edge.specs.Refusals.{Completes, IsPieceRefusal}
use Rattle.http_edge.specs.Reached.{InEach, Journey, PieceLeads, Reached, is_closing}
use Rattle.http_edge.specs.Supply.{Suffices}
use Rattle.http_edge.specs.Sources.{draws_for, draws_behind}
use Rattle.telling.specs.Audience.{Audience, heard_by}

-- it holds of the connections, wherever the edge was reached
abbrev pub WhereReached : {H : Type 0} → Hosting H → SeenEdge H → (List Connection → Type 0) → Type 0
WhereReached hosting edge P = InEach hosting edge (λ world. P world.connections)

-- these messages a piece brings: those that it completes, and none behind the 400 of a faulty head
abbrev pub IsBrought : List Connection → Piece → List Message → Type 0
IsBrought connections piece messages =
    Completes connections piece.connection piece.bytes messages
    ⊎ ((is_closing (connection_at connections piece.connection) ≡ true) × (messages ≡ []))

-- an edge, what the requests in its pieces have their draws from, and who is told of them
pub record SuppliedEdge (H S : Type 0) : Type 0 where
  pub edge : SeenEdge H
  pub source : S
  pub audience : Audience

abbrev pub supplied : {H S : Type 0} → SeenEdge H → S → Audience → SuppliedEdge H S
supplied edge source audience = record { edge = edge; source = source; audience = audience }

-- A piece was given to the edge, and each request that it brings had the source's next draws. The source stands right behind
-- these. What is told of the requests was heard, where it is wanted.
pub record PieceGiven {H S : Type 0} (hosting : Hosting H) (sources : Sources S) (old : SuppliedEdge H S) (piece : Piece) (new : SuppliedEdge H S) :
    Type 0 where
  pub messages : List Message
  pub brought : WhereReached hosting old.edge (λ connections. IsBrought connections piece messages)
  pub enough : Suffices (sources.supply old.source) (length messages)
  pub leads : PieceLeads hosting old.edge new.edge piece (draws_for sources old.source messages)
  pub source_is : new.source ≡ draws_behind sources old.source messages
  pub heard : (journey : Journey H) (reached : Reached hosting old.edge journey) →
      new.audience ≡ heard_by old.audience (leads journey reached).tellings

-- the fault is the bytes', which came on the connection, wherever the edge was reached
abbrev pub RefusesPiece : {H : Type 0} → Hosting H → SeenEdge H → Piece → Option ℕ → EdgeFault → Type 0
RefusesPiece hosting edge piece supply fault =
    WhereReached hosting edge (λ connections. IsPieceRefusal fault connections piece.connection piece.bytes supply)
