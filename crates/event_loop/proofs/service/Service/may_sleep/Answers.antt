use Rattle.std.proofs.Common.{◌≡◌, ◌∙◌, None, rules, sym}
use Rattle.event_loop.proofs.Names.{eqb-true}
use Rattle.event_loop.proofs.Putting.{none_counted}
use Rattle.event_loop.proofs.service.Service.may_sleep.Goals as goal

pub returns-clause-sleeps : goal.returns-clause-sleeps
returns-clause-sleeps c = λ is.
    let unwanted : c.args.self.now.limits.report ≡ None = search rules in
    record { free = none_counted c.args.self.now.places (sym c.open_count.ensures ∙ eqb-true _ _ is); unbarred = c.in_default.not-Barred; unwanted = unwanted }
