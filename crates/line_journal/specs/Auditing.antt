-- What is told of requests: each has a line, or is counted.
use Rattle.std.specs.Prelude.{◌≡◌, ◌⊎◌, ◌+◌, ◌-◌, ◌^◌, ℕ, List, [], ◌∷◌, Option, Some, None, min}
use Rattle.clients.specs.RegistryRecord.{RegistryRecord}
use Rattle.telling.specs.Audience.{Audience, new_audience, nobody}
use Rattle.telling.specs.declared.interest.Interest.TheVariants.{Denials, Everything}
use Rattle.telling.specs.declared.told.Told.{Told}
use Rattle.line_journal.specs.declared.audit_log.AuditLog.{AuditLog}
use Rattle.line_journal.specs.declared.line_journal.LineJournal.{LineJournal}
use Rattle.line_journal.specs.declared.measures.Measures.{Measures}
use Rattle.line_journal.specs.AuditTexts.{dropped_text, told_lines}

-- the line of a request, under the rules, has its place, behind what is to be told before it
pub record Places (rules : RegistryRecord) (old : AuditLog) (told : Told) (new : AuditLog) : Type 0 where
  pub line : new.lines.line.items ≡ told_lines rules old.dropped old.begun told
  pub dropped : new.dropped ≡ 0
  pub begun : new.begun ≡ None

-- or is lost, and counted
pub record Loses (old new : AuditLog) : Type 0 where
  pub dropped : new.dropped ≡ min (old.dropped + 1) (2 ^ 64 - 1)
  pub begun : new.begun ≡ old.begun

abbrev pub Tells : RegistryRecord → AuditLog → Told → AuditLog → Type 0
Tells rules old told new = Places rules old told new ⊎ Loses old new

-- of one request after the other
abbrev pub TellsAll : RegistryRecord → AuditLog → List Told → AuditLog → Type 0
TellsAll rules old [] new = new ≡ old
TellsAll rules old (told ∷ later) new = (mid : AuditLog) × Tells rules old told mid × TellsAll rules mid later new

-- what there was no room for is lost, too
abbrev pub counted : AuditLog → ℕ → AuditLog
counted log lost = record log { dropped = min (log.dropped + lost) (2 ^ 64 - 1) }

-- how many were lost is told, or is still to be told
pub record TellsLost (old new : AuditLog) : Type 0 where
  pub line : new.lines.line.items ≡ dropped_text old.dropped
  pub dropped : new.dropped ≡ 0
  pub begun : new.begun ≡ old.begun

abbrev pub MayTellLost : AuditLog → AuditLog → Type 0
MayTellLost old new = TellsLost old new ⊎ ((new.dropped ≡ old.dropped) × (new.begun ≡ old.begun))

-- of each request that was told, in its order, and then of what there was no room for
abbrev pub TellsAudience : RegistryRecord → AuditLog → Audience → AuditLog → Type 0
TellsAudience rules old audience new =
    (mid : AuditLog) × TellsAll rules old audience.told mid × MayTellLost (counted mid audience.dropped) new

-- where there is a log
abbrev pub AuditsIn : RegistryRecord → Option AuditLog → Audience → Option AuditLog → Type 0
AuditsIn rules None audience new = new ≡ None
AuditsIn rules (Some old) audience new = (log : AuditLog) × (new ≡ Some log) × TellsAudience rules old audience log

-- by a journal, which writes no other line
pub record Audits {E : Type 0} (old : LineJournal E) (rules : RegistryRecord) (audience : Audience) (new : LineJournal E) : Type 0 where
  pub audit : AuditsIn rules old.outlets.audit audience new.outlets.audit
  pub outlets : new.outlets ≡ record old.outlets { audit = new.outlets.audit }
  pub lines : new.lines ≡ old.lines
  pub dropped : new.dropped ≡ old.dropped

-- of what a life is told: of each request, where there is a log, in the room that this took at its start, or in as much; and else of
-- those that a hook denied, where that is measured
abbrev pub IsRoom : Option Audience → Audience → Type 0
IsRoom (Some room) audience = audience ≡ room
IsRoom None audience = audience ≡ new_audience Everything 4096

abbrev pub IsTold : Option AuditLog → Option Measures → Audience → Type 0
IsTold (Some log) measures audience = IsRoom log.room audience
IsTold None (Some measures) audience = audience ≡ new_audience Denials 1024
IsTold None None audience = audience ≡ nobody

-- of nothing, where memory is refused for that, which the room of a log's start is not
abbrev pub MayBeUntold : Option AuditLog → Audience → Type 0
MayBeUntold (Some log) audience = (log.room ≡ None) × (audience ≡ nobody)
MayBeUntold None audience = audience ≡ nobody
