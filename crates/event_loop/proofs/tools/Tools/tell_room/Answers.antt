use Rattle.event_loop.proofs.Names.{promises, keeping}
use Rattle.event_loop.proofs.Leaving.{told_apart, want_told}
use Rattle.event_loop.proofs.tools.Tools.tell_room.Goals as goal

pub returns-clause-leads : goal.returns-clause-leads
returns-clause-leads g c = λ first found past served.
    want_told (promises g.N.Sockets g.C.Clocks g.J.Journal (keeping g.K.Keeper) g.H.HookHost) first found past c.args.service.now c.args.self.now c.wants_room-wants.result c.report.new.self
    c.wants_room-wants.ensures (told_apart _ _ c.if-wants-service.false) c.report.ensures served
