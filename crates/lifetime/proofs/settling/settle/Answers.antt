use Rattle.lifetime.specs.Clocks.{seconds_ahead}
use Rattle.lifetime.specs.Starts.{ReportsAll, ahead_notices, ended_notices, torn_notices}
use Rattle.lifetime.proofs.Telling.{reports_then}
use Rattle.lifetime.proofs.settling.settle.Goals as goal

pub returns-clause-told : goal.returns-clause-told
returns-clause-told g c =
    let torn : ReportsAll g.J.Journal c.args.journal.now (torn_notices c.args.plan.torn.items) c.put_aside.new.journal =
    rw c.deref.ensures.value at c.in_default.ensures.told in
    let ahead : ReportsAll g.J.Journal c.tell_ended.new.journal (ahead_notices (seconds_ahead c.args.now c.args.plan.prepared.moment)) c.tell_ahead.new.journal =
    rw (c.seconds_ahead-ahead.ensures, c.moment.ensures) at c.tell_ahead.ensures in
    reports_then g.J.Journal _ _ _ (torn_notices c.args.plan.torn.items) _ torn
    (reports_then g.J.Journal _ _ _ (ended_notices c.args.plan.ended) _ c.tell_ended.ensures ahead)
