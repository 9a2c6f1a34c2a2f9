-- Where a lane is kept.
use Rattle.std.specs.Prelude.{◌≡◌, List, [], ◌∷◌, None, ⊤}
use Rattle.http_edge.specs.Lanes.{SeenLane, lane_at}

-- no two lanes are of one connection
abbrev pub AreApart : List SeenLane → Type 0
AreApart [] = ⊤
AreApart (lane ∷ more) = (lane_at more lane.number ≡ None) × AreApart more
