use Rattle.std.proofs.Common.{rules}
use Rattle.event_loop.specs.Served.{reports_last, tells_nothing}
use Rattle.event_loop.proofs.tools.Tools.tell_last.Goals as goal

pub returns-in_default : goal.returns-in_default
returns-in_default g c = λ found past. tells_nothing (search rules)

pub returns : goal.returns
returns g c = λ found past. reports_last c.report_now-report.result c.report.new.self (search rules) (c.report_now-report.ensures found past) c.report.ensures
