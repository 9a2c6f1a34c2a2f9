use Rattle.std.proofs.Common.{List, subst}
use Rattle.telling.specs.declared.told.Told.{Told}
use Rattle.line_journal.specs.declared.audit_log.AuditLog.{AuditLog}
use Rattle.line_journal.specs.Auditing.{MayTellLost, TellsAll}
use Rattle.line_journal.proofs.audit_log.AuditLog.tell_all.Goals as goal

pub returns : goal.returns
returns c = (
  c.tell_each.new.self,
  subst (λ (tolds : List Told). TellsAll c.args.rules.now c.args.self.now tolds c.tell_each.new.self) c.told.ensures c.tell_each.ensures,
  rw c.dropped.ensures at (subst (λ (log : AuditLog). MayTellLost log c.tell_dropped.new.self) c.count.ensures c.tell_dropped.ensures),
)
