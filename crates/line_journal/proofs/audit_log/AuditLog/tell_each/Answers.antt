use Rattle.line_journal.proofs.Auditing.{tells_on}
use Rattle.line_journal.proofs.audit_log.AuditLog.tell_each.Goals as goal

pub loop-told-preserved : goal.loop-told-preserved
loop-told-preserved c = λ end later. c.loop-told.invariant end
    (tells_on c.args.rules.now c.args.tolds.now c.loop-told.told-index c.told-item.result c.loop-told.self c.tell.new.self end c.loop-told-test.true c.told-item.is c.tell.ensures later)
