-- Why an event is refused.
use Rattle.std.specs.Prelude.{◌≡◌, ◌≤◌, ◌<◌, ◌++◌, ℕ, List, false, Option, Some, None, IsSome, length}
use Rattle.http_edge.specs.Names.{Hosting, Message, Messages, EdgeFault, TooMany, NotOpen, AlreadyOpen, PieceTooLong, DrawsShort, TooManyRequests, Memory}
use Rattle.http_edge.specs.Limits.{connection_limit, piece_limit, request_limit}
use Rattle.http_edge.specs.Supply.{Suffices, FallsShort}
use Rattle.http_edge.specs.Schedule.{Connection, connection_at, has_stream_ended}
use Rattle.http_edge.specs.Edges.{SeenEdge}
use Rattle.http_edge.specs.Reached.{InEach}
use Rattle.http_edge.specs.declared.lane.Phase.TheVariants.{Open}
use Rattle.http_edge.specs.declared.event.Event.{Event}
use Rattle.http_edge.specs.declared.event.Event.TheVariants as event

-- bytes may still come on the connection
abbrev pub MaySend : Option Connection → Type 0
MaySend None = ⊥
MaySend (Some k) = has_stream_ended k.phase ≡ false

-- The connection is open, the piece is not too long, and these are the messages that it completes
pub record Completes (connections : List Connection) (c : ℕ) (piece : List ℕ) (messages : List Message) : Type 0 where
  pub connection : Connection
  pub here : connection_at connections c ≡ Some connection
  pub is_open : connection.phase ≡ Open
  pub short : length piece ≤ piece_limit
  pub rest : List ℕ
  pub reads : Messages (connection.stream ++ piece) (connection.messages ++ messages) rest

-- A piece, with draws for so many requests, or for any number: NotOpen, PieceTooLong, TooManyRequests, DrawsShort, Memory,
-- in this order
abbrev pub IsPieceRefusal : EdgeFault → List Connection → ℕ → List ℕ → Option ℕ → Type 0
IsPieceRefusal NotOpen connections c piece supply = ¬ (MaySend (connection_at connections c))
IsPieceRefusal PieceTooLong connections c piece supply = MaySend (connection_at connections c) × (piece_limit < length piece)
IsPieceRefusal TooManyRequests connections c piece supply = (messages : List Message) × Completes connections c piece messages ×
    (request_limit < length messages)
IsPieceRefusal DrawsShort connections c piece supply =
    (messages : List Message) × Completes connections c piece messages × (length messages ≤ request_limit) × FallsShort supply (length messages)
IsPieceRefusal Memory connections c piece supply =
    (messages : List Message) × Completes connections c piece messages × (length messages ≤ request_limit) × Suffices supply (length messages)
IsPieceRefusal fault connections c piece supply = ⊥

-- an opening: AlreadyOpen, TooMany, Memory, in this order
abbrev pub IsOpeningRefusal : EdgeFault → List Connection → ℕ → Type 0
IsOpeningRefusal AlreadyOpen connections c = IsSome (connection_at connections c)
IsOpeningRefusal TooMany connections c = (connection_at connections c ≡ None) × (connection_limit ≤ length connections)
IsOpeningRefusal Memory connections c = (connection_at connections c ≡ None) × (length connections < connection_limit)
IsOpeningRefusal fault connections c = ⊥

-- an end: NotOpen alone
abbrev pub IsEndingRefusal : EdgeFault → List Connection → ℕ → Type 0
IsEndingRefusal NotOpen connections c = ¬ (MaySend (connection_at connections c))
IsEndingRefusal fault connections c = ⊥

abbrev pub IsEventRefusal : EdgeFault → List Connection → Event → Type 0
IsEventRefusal fault connections (event.Open c) = IsOpeningRefusal fault connections c
IsEventRefusal fault connections (event.Bytes c piece moment draws) = IsPieceRefusal fault connections c piece.now (Some (length draws.now))
IsEventRefusal fault connections (event.End c) = IsEndingRefusal fault connections c

-- the fault is the event's, wherever the edge was reached
abbrev pub RefusesEvent : {H : Type 0} → Hosting H → SeenEdge H → Event → EdgeFault → Type 0
RefusesEvent hosting edge e fault = InEach hosting edge (λ world. IsEventRefusal fault world.connections e)
