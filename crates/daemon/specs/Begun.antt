-- Where a server begins.
use Rattle.clients.specs.RegistryRecord.{RegistryRecord}
use Rattle.endpoints.specs.Server.{outset_of}
use Rattle.hook_host.specs.declared.host.HookHost.{Ghosts as Hosting}
use Rattle.http_edge.specs.Edges.{SeenEdge}
use Rattle.http_edge.specs.Reached.{Reached, new_journey}

-- an edge is new, over a server with these rules, whose host is at its first
abbrev pub IsNewEdge : {H : Type 0} → Hosting H → RegistryRecord → H → SeenEdge H → Type 0
IsNewEdge hosting rules first edge = Reached hosting edge (new_journey (outset_of rules first))
