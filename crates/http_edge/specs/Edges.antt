-- An edge as it is seen, and why its events are refused.
use Rattle.std.specs.Prelude.{ℕ, List, Option}
use Rattle.consent.specs.History.{Event}
use Rattle.endpoints.specs.Server.{SeenServer}
use Rattle.http_edge.specs.Lanes.{SeenLane, lane_at, output_in}

pub record SeenEdge (H : Type 0) : Type 0 where
  pub server : SeenServer H
  pub lanes : List SeenLane

abbrev pub output_of : {H : Type 0} → SeenEdge H → ℕ → List ℕ
output_of edge c = output_in (lane_at edge.lanes c)

-- what has happened and was not kept yet, where it is noted
abbrev pub unkept_of : {H : Type 0} → SeenEdge H → Option (List Event)
unkept_of edge = edge.server.unkept
