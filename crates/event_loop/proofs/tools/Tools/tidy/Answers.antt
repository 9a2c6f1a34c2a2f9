use Rattle.std.proofs.Common.{refl}
use Rattle.event_loop.specs.Served.{goes, tries_again}
use Rattle.event_loop.proofs.Doing.{none_more}
use Rattle.event_loop.proofs.Resting.{settled_then}
use Rattle.event_loop.proofs.tools.Tools.tidy.Goals as goal

pub returns-clause-leads : goal.returns-clause-leads
returns-clause-leads g c = λ found first past h settled.
    let swept = c.sweep.ensures.leads found first past h settled in
    record { next = swept.next; served = goes swept.served (tries_again c.in-Barred.since c.in-Barred.is c.if-since-service.false); settled = settled_then c.sweep.new.service swept.next _ swept.next refl refl refl (none_more swept.next.calls) swept.settled; done = swept.done }
