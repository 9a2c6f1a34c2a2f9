-- One call on an edge, wherever the edge was reached. This is what the proofs of `make_calls` speak of.
use Rattle.std.specs.Prelude.{◌≡◌, [], length, take}
use Rattle.headline.specs.Names.{Hosting, SeenEdge, output_of, HappeningLeads, InEach, Taken, Forgotten, EdgeCall, Take, Forget, Upshot, Done, Refused}
use Rattle.http_edge.specs.Events.{EventLeads}
use Rattle.headline.specs.declared.call.EdgeCall.TheVariants.{Event}
use Rattle.headline.specs.Calls.{IsCause}

-- the call leads from the one edge to the other, or is refused and changes nothing
abbrev pub CallLeads : {H : Type 0} → Hosting H → SeenEdge H → SeenEdge H → EdgeCall → Upshot → Type 0
CallLeads hosting old new call (Refused fault) = (new ≡ old) × InEach hosting old (λ world. IsCause fault world.connections call)
CallLeads hosting old new (Event e) (Done bytes) = (bytes.items ≡ []) × EventLeads hosting old new e
CallLeads hosting old new (Take c most) (Done bytes) =
    (bytes.items ≡ take most (output_of old c)) × HappeningLeads hosting old new (Taken c (length bytes.items))
CallLeads hosting old new (Forget c) (Done bytes) = (bytes.items ≡ []) × HappeningLeads hosting old new (Forgotten c)
