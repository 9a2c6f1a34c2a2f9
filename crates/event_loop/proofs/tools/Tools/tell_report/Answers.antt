use Rattle.std.proofs.Common.{◌≤◌, ◌-◌, arith, refl}
use Rattle.event_loop.proofs.Names.{promises, goes, reports, keeping, reported}
use Rattle.event_loop.proofs.Doing.{none_more}
use Rattle.event_loop.proofs.Leading.{goes_still, nowhere}
use Rattle.event_loop.proofs.tools.Tools.tell_report.Goals as goal

pub returns-then-saturating_sub-every-clause-leads : goal.returns-then-saturating_sub-every-clause-leads
returns-then-saturating_sub-every-clause-leads g c = λ found. nowhere (promises g.N.Sockets g.C.Clocks g.J.Journal (keeping g.K.Keeper) g.H.HookHost) found _ _

pub returns-clause-leads : goal.returns-clause-leads
returns-clause-leads g c = λ found first past h settled.
    let due : c.args.every ≤ c.args.service.now.times.steady - c.args.service.now.told.report = omega arith in
    goes_still (promises g.N.Sockets g.C.Clocks g.J.Journal (keeping g.K.Keeper) g.H.HookHost) first found past past c.args.service.now _ _ refl refl refl (none_more past.calls) (goes h (reports _ _ c.report.new.self (reported c.args.every c.report_now-report.result c.requires.wanted due (c.report_now-report.ensures found past)) c.report.ensures)) settled
