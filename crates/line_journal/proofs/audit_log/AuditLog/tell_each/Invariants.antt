use Rattle.std.proofs.Common.{drop}
use Rattle.line_journal.specs.declared.audit_log.AuditLog.{AuditLog}
use Rattle.line_journal.specs.Auditing.{TellsAll}
use Rattle.line_journal.proofs.audit_log.AuditLog.tell_each.Given as goal

-- whatever comes of those that are left comes of all
abbrev pub invariant-loop-told : goal.invariant-loop-told
invariant-loop-told l = (end : AuditLog) → TellsAll l.rules l.self (drop l.told-index l.tolds) end → TellsAll l.rules l.fn.self l.tolds end
