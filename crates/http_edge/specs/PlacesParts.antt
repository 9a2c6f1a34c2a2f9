-- Beside Places: only the contracts of this crate's own parts and their proofs cite this, no public clause.
use Rattle.std.specs.Prelude.{◌≡◌, ◌<◌, ℕ, List, length, Option, Some, None, slice_set, slice_get}
use Rattle.http_edge.specs.Lanes.{SeenLane, lane_at}
use Rattle.http_edge.specs.LanesParts.{with_lane}

-- the connection's lane lies at this place, and may be replaced there
pub record IsPlace (lanes : List SeenLane) (c i : ℕ) : Type 0 where
  pub within : i < length lanes
  pub lane : SeenLane
  pub here : lane_at lanes c ≡ Some lane
  pub there : slice_get lanes i ≡ Some lane
  pub put : (new : SeenLane) → slice_set lanes i new ≡ with_lane c new lanes

-- the place, where there is such a lane
abbrev pub IsPosition : List SeenLane → ℕ → Option ℕ → Type 0
IsPosition lanes c None = lane_at lanes c ≡ None
IsPosition lanes c (Some i) = IsPlace lanes c i
