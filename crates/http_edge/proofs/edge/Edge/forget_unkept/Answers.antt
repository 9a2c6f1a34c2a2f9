use Rattle.std.proofs.Common.{refl}
use Rattle.http_edge.proofs.Going.{on_kept}
use Rattle.http_edge.proofs.edge.Edge.forget_unkept.Goals as goal

pub returns-clause-kept : goal.returns-clause-kept
returns-clause-kept g c = λ journey reached.
    let now = rw (← c.self.view_is) at reached in
    on_kept g.H.HookHost _ _ c.forget_unkept.ensures refl (rw (← c.self.view_is) at c.requires) journey now
