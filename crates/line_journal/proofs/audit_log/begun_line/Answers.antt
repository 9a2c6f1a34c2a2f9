use Rattle.line_journal.proofs.audit_log.begun_line.Goals as goal

pub returns : goal.returns
returns c = rw (c.in_ok-number-3.ensures, c.in_ok-number-2.ensures, c.in_ok-number.ensures, c.in_ok-line.ensures, c.get.ensures.value, c.client_count.ensures.value, c.owner_count.ensures.value) at c.line_of.ensures
