use Rattle.std.proofs.Common.{Option, Some, refl, subst, sym}
use Rattle.line_journal.specs.declared.audit_log.AuditLog.{AuditLog}
use Rattle.line_journal.specs.Auditing.{AuditsIn}
use Rattle.line_journal.proofs.line_journal.LineJournalJournal.audit.Goals as goal

pub returns-in-Some : goal.returns-in-Some
returns-in-Some g c = record {
  audit = subst (λ (was : Option AuditLog). AuditsIn c.args.rules.now was c.args.tellings.now (Some c.tell_all.new.self)) (sym c.in-Some.is) (c.tell_all.new.self, refl, c.tell_all.ensures);
  outlets = refl;
  lines = refl;
  dropped = refl;
}
