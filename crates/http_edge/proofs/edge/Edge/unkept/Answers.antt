use Rattle.std.proofs.Common.{sym, subst}
use Rattle.endpoints.specs.Server.{AreUnkept}
use Rattle.http_edge.proofs.edge.Edge.unkept.Goals as goal

pub returns-clause-unkept : goal.returns-clause-unkept
returns-clause-unkept g c = λ journey reached.
    let now = rw (← c.self.view_is) at reached in
    subst (λ unkept. AreUnkept unkept journey.world.kept journey.world.history) (sym c.unkept.ensures) now.notes
