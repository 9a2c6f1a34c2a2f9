-- What the server is proved to do, in one sentence.
use Rattle.std.specs.Prelude.{List}
use Rattle.headline.specs.Names.{Hosting, Outset, SeenEdge, Journey, Reached, new_journey, EdgeCall, Upshot}
use Rattle.headline.specs.Calls.{Lead}

-- The calls were made on a new edge over a server of this outset, had these upshots, and left this edge.
pub record IsMade {H : Type 0} (hosting : Hosting H) (outset : Outset H) (calls : List EdgeCall) (upshots : List Upshot) (edge : SeenEdge H) :
    Type 0 where
  -- what the calls that were not refused did, and the world to which this led
  pub journey : Journey H
  -- the calls had their upshots from the beginning to there
  pub lead : Lead hosting (new_journey outset) calls upshots journey
  -- The edge is what that led to: its server answers as the world's history says, every token keeps to allowance, consent and
  -- life, and of each connection that was not forgotten it has all that was not taken. In each world on the way, and so of
  -- those that were forgotten later, the bytes to a connection are the replies to the requests in the bytes given to it
  -- (`Conversation`): that follows, since the calls up to there lead to that world by a run of events.
  pub reached : Reached hosting edge journey
