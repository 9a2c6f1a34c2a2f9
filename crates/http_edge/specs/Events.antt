-- What comes on connections.
use Rattle.hook_host.specs.declared.host.HookHost.{Ghosts as Hosting}
use Rattle.http_edge.specs.Edges.{SeenEdge}
use Rattle.http_edge.specs.Schedule.{Opened, HasEnded, piece_of}
use Rattle.http_edge.specs.Reached.{HappeningLeads, PieceLeads}
use Rattle.http_edge.specs.declared.event.Event.{Event}
use Rattle.http_edge.specs.declared.event.Event.TheVariants.{Open, Bytes, End}

-- wherever the one edge was reached, the event leads to the other
abbrev pub EventLeads : {H : Type 0} → Hosting H → SeenEdge H → SeenEdge H → Event → Type 0
EventLeads hosting old new (Open c) = HappeningLeads hosting old new (Opened c)
EventLeads hosting old new (Bytes c piece moment draws) = PieceLeads hosting old new (piece_of c piece.now moment) draws.now
EventLeads hosting old new (End c) = HappeningLeads hosting old new (HasEnded c)
