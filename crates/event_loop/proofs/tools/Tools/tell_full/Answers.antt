use Rattle.std.proofs.Common.{refl, sym, ◌∙◌}
use Rattle.event_loop.proofs.Names.{promises, goes, reports, keeping, full}
use Rattle.event_loop.proofs.Doing.{none_more}
use Rattle.event_loop.proofs.Leading.{goes_still, nowhere}
use Rattle.event_loop.proofs.tools.Tools.tell_full.Goals as goal

pub returns-then-full-service-clause-leads : goal.returns-then-full-service-clause-leads
returns-then-full-service-clause-leads g c = λ found. nowhere (promises g.N.Sockets g.C.Clocks g.J.Journal (keeping g.K.Keeper) g.H.HookHost) found _ _

pub returns-then-not-is_long_ago-clause-leads : goal.returns-then-not-is_long_ago-clause-leads
returns-then-not-is_long_ago-clause-leads g c = λ found first past h settled.
    goes_still (promises g.N.Sockets g.C.Clocks g.J.Journal (keeping g.K.Keeper) g.H.HookHost) first found past past c.args.service.now _ _ refl refl refl (none_more past.calls) h settled

pub returns-clause-leads : goal.returns-clause-leads
returns-clause-leads g c = λ found first past h settled.
    goes_still (promises g.N.Sockets g.C.Clocks g.J.Journal (keeping g.K.Keeper) g.H.HookHost) first found past past c.args.service.now _ _ refl refl refl (none_more past.calls) (goes h (reports _ _ c.report.new.self (full c.requires.wanted (sym c.is_long_ago.ensures ∙ c.if-not-is_long_ago.false)) c.report.ensures)) settled
