-- Beside Edges: only the contracts of this crate's own parts and their proofs cite this, no public clause.
use Rattle.std.specs.Prelude.{◌≡◌, ◌≤◌, ◌<◌, ◌++◌, ℕ, List, Option, Some, None, IsSome, length}
use Rattle.http_edge.specs.Names.{Hosting, Draws, Sources, EdgeFault, TooMany, NotOpen, AlreadyOpen, PieceTooLong, Memory}
use Rattle.http_edge.specs.Limits.{connection_limit, piece_limit}
use Rattle.http_edge.specs.Schedule.{Piece}
use Rattle.http_edge.specs.Reached.{PieceLeads}
use Rattle.http_edge.specs.Pieces.{PieceGiven, SuppliedEdge}
use Rattle.http_edge.specs.Sources.{draws_for}
use Rattle.http_edge.specs.Lanes.{SeenLane, lane_at}
use Rattle.http_edge.specs.LanesParts.{IsHearing}
use Rattle.http_edge.specs.Heard.{IsHearingRefusal}
use Rattle.http_edge.specs.declared.lane.Phase.TheVariants.{Open}

-- a piece was given, and leads on also where draws are left behind those of its requests
pub record GivenWithMore {H S : Type 0} (hosting : Hosting H) (sources : Sources S) (old : SuppliedEdge H S) (piece : Piece) (new : SuppliedEdge H S) :
    Type 0 where
  pub given : PieceGiven hosting sources old piece new
  pub leads : (left : List Draws) → PieceLeads hosting old.edge new.edge piece (draws_for sources old.source given.messages ++ left)

-- why a connection is not opened
abbrev pub IsOpenRefusal : EdgeFault → List SeenLane → ℕ → Type 0
IsOpenRefusal AlreadyOpen lanes c = IsSome (lane_at lanes c)
IsOpenRefusal TooMany lanes c = (lane_at lanes c ≡ None) × (connection_limit ≤ length lanes)
IsOpenRefusal Memory lanes c = (lane_at lanes c ≡ None) × (length lanes < connection_limit)
IsOpenRefusal fault lanes c = ⊥

-- why a connection's stream does not end
abbrev pub IsEndRefusal : EdgeFault → List SeenLane → ℕ → Type 0
IsEndRefusal NotOpen lanes c = ¬ (IsHearing (lane_at lanes c))
IsEndRefusal fault lanes c = ⊥

-- the connection is open, and the piece is not too long
pub record MayHear (lanes : List SeenLane) (c : ℕ) (piece : List ℕ) : Type 0 where
  pub lane : SeenLane
  pub here : lane_at lanes c ≡ Some lane
  pub is_open : lane.phase ≡ Open
  pub short : length piece ≤ piece_limit

-- why a piece is refused
abbrev pub IsBytesRefusal : EdgeFault → List SeenLane → ℕ → List ℕ → Option ℕ → Type 0
IsBytesRefusal NotOpen lanes c piece supply = ¬ (IsHearing (lane_at lanes c))
IsBytesRefusal PieceTooLong lanes c piece supply = IsHearing (lane_at lanes c) × (piece_limit < length piece)
IsBytesRefusal fault lanes c piece supply = (may : MayHear lanes c piece) × IsHearingRefusal fault (may.lane.rest ++ piece) supply
