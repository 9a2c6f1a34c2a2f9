-- What is told of one request, and of those behind it.
use Rattle.std.proofs.Common.{◌≡◌, ◌<◌, ◌+◌, ℕ, List, ◌∷◌, ◌∙◌, ap, drop, get_or, length, subst, sym}
use Rattle.std.proofs.lemmas.List.{drop_more}
use Rattle.clients.specs.RegistryRecord.{RegistryRecord}
use Rattle.telling.specs.declared.told.Told.{Told}
use Rattle.line_journal.specs.declared.audit_log.AuditLog.{AuditLog}
use Rattle.line_journal.specs.Auditing.{Tells, TellsAll}

-- is told of all
pub tells_on : (rules : RegistryRecord) (tolds : List Told) (i : ℕ) (told : Told) (old mid end : AuditLog) → i < length tolds → told ≡ get_or tolds i told →
    Tells rules old told mid → TellsAll rules mid (drop (i + 1) tolds) end → TellsAll rules old (drop i tolds) end
tells_on rules tolds i told old mid end below is first later =
    subst (λ (rest : List Told). TellsAll rules old rest end) (sym (drop_more tolds i told below ∙ ap (λ (x : Told). x ∷ drop (i + 1) tolds) (sym is))) (mid, first, later)
