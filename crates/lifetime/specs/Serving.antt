-- A server that serves its connections until it can't go on.
use Rattle.std.specs.Prelude.{◌⊎◌, List}
use Rattle.lifetime.specs.Names.{HasServed, ServesNothing, Promises, Named, SeenEdge, Journey, Reached}
use Rattle.event_loop.specs.declared.tools.Tools.{Tools}
use Rattle.lifetime.specs.declared.means.Means.{Means}
use Rattle.lifetime.specs.declared.going_on.Ending.{Ending}

-- the tools of the loop: what a server was handed, its keeper and an edge
abbrev pub tools_of : {N C J K H : Type 0} → Means N C J → K → SeenEdge H → Tools N C J K H
tools_of means keeper edge = record {
  sockets = means.sockets;
  edge = edge;
  clocks = means.clocks;
  generator = means.generator;
  journal = means.journal;
  keeper = keeper;
  tellings = means.tellings;
}

-- A server, from where its journey had led it, served its connections step by step until it could not go on; or the clocks told
-- nothing, and it served none.
pub record Serves {N C J K : Type 0} (p : Promises N C J K (List Named)) (journey : Journey (List Named)) (means : Means N C J) (keeper : K)
    (ending : Ending N C J K) : Type 0 where
  pub edge : SeenEdge (List Named)
  pub begun : Reached p.hosting edge journey
  pub served : HasServed p (record { limits = means.limits; tools = tools_of means keeper edge; journey = journey }) ending.fault ending.tools
      ⊎ ServesNothing p (tools_of means keeper edge) ending.fault ending.tools
