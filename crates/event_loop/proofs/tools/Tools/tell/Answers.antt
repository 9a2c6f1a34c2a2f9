use Rattle.event_loop.proofs.Names.{promises, keeping}
use Rattle.event_loop.proofs.Leading.{nowhere, to_then}
use Rattle.event_loop.proofs.tools.Tools.tell.Goals as goal

pub returns-in_default-clause-leads : goal.returns-in_default-clause-leads
returns-in_default-clause-leads g c = λ found. nowhere (promises g.N.Sockets g.C.Clocks g.J.Journal (keeping g.K.Keeper) g.H.HookHost) found _ _

pub returns-clause-leads : goal.returns-clause-leads
returns-clause-leads g c = λ found.
    to_then (promises g.N.Sockets g.C.Clocks g.J.Journal (keeping g.K.Keeper) g.H.HookHost) found found found _ _ _ _ _ _ (c.tell_full.ensures.leads found) (c.tell_report.ensures.leads found)
