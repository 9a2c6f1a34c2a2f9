-- When reports are written as lines.
use Rattle.std.specs.Prelude.{◌≡◌, ℕ, ◌-◌, Bool, true, false, nat_le, Option, Some, None, is_some, if◌then◌else◌}
use Rattle.outside.specs.declared.report.Notice.{Notice}
use Rattle.outside.specs.declared.report.Notice.TheVariants.{Reported, StoreFull}
use Rattle.outside.specs.declared.report.Report.{Report}
use Rattle.line_journal.specs.declared.due.Due.{Due}
use Rattle.line_journal.specs.declared.line_journal.LineJournal.{LineJournal}

-- a life begins: a report is to be written each so many seconds of it, if at all
abbrev pub due_each : Option ℕ → Due
due_each every = record { every = every; last = 0; since = None }

-- so many seconds have passed since one was written last in this life, or since that began
abbrev pub is_time : Option ℕ → ℕ → Bool
is_time None passed = false
is_time (Some every) passed = nat_le every passed

abbrev pub is_due : Due → Report → Bool
is_due due report = is_time due.every (report.seconds - due.last)

-- where reports are wanted, the last one that was not written is kept for the life's end
abbrev pub kept_since : Option ℕ → Due → Report → Due
kept_since None due report = due
kept_since (Some every) due report = record due { since = Some report }

-- there is a report, which is written where it is due
abbrev pub due_after : Due → Report → Due
due_after due report = if is_due due report then record due { last = report.seconds; since = None } else kept_since due.every due report

-- whether a notice is written: a report where it is due, that the store is full where reports are wanted, and every other one
abbrev pub is_written : Due → Notice → Bool
is_written due (Reported report) = is_due due report
is_written due StoreFull = is_some due.every
is_written due _ = true

abbrev pub due_behind : Due → Notice → Due
due_behind due (Reported report) = due_after due report
due_behind due _ = due

-- no line is written, and none counted as lost
pub record IsSilent {E : Type 0} (old new : LineJournal E) : Type 0 where
  pub lines : new.lines ≡ old.lines
  pub dropped : new.dropped ≡ old.dropped

-- a journal hears of a fault: it writes lines alone
abbrev pub Notes : {E : Type 0} → LineJournal E → LineJournal E → Type 0
Notes old new = new.outlets ≡ record old.outlets { notes = new.outlets.notes }

-- or of a notice, of which nothing is written where it is not to be
pub record Reports {E : Type 0} (old : LineJournal E) (notice : Notice) (new : LineJournal E) : Type 0 where
  pub outlets : new.outlets ≡ record old.outlets { notes = new.outlets.notes; due = due_behind old.outlets.due notice }
  pub silent : is_written old.outlets.due notice ≡ false → IsSilent old new

-- a life is over: its last report is written, where it was not
abbrev pub over : Due → Due
over due = record due { since = None }

pub record Ends {E : Type 0} (old new : LineJournal E) : Type 0 where
  pub outlets : new.outlets ≡ record old.outlets { notes = new.outlets.notes; due = over old.outlets.due }
  pub silent : old.outlets.due.since ≡ None → IsSilent old new
