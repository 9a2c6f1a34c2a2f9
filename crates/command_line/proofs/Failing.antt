-- A service that failed, and what is told of it.
use Rattle.std.proofs.Common.{◌⊎◌, inl, inr, subst}
use Rattle.command_line.proofs.Names.{EndsService, FailsService, ServiceFiles, Output, Prints, output, outputs, Startings, CommandFault, Service}
use Rattle.commands.specs.Performed.{IsTold, IsUntold, IsUnwritten}
use Rattle.commands.specs.declared.status.Status.{Status}

-- it failed where so much was told, and its fault is told behind that
pub fails_told : {W E : Type 0} (starts : Startings) (service : Service) (files : ServiceFiles) (fault : CommandFault) (status : Status) (out : Output W) (err : Output E) (mid : E)
    → FailsService starts service files fault (outputs out (output err.seen err.writes err.old mid))
    → IsUntold status (output err.seen err.writes mid err.new) ⊎ IsTold fault status (output err.seen err.writes mid err.new)
    → IsUnwritten status (outputs out err) ⊎ EndsService starts service files status (outputs out err)
fails_told starts service files fault status out err mid fails (inl untold) = inl (inr untold)
fails_told starts service files fault status out err mid (inl (same, cause)) (inr told) =
    inr (inr (inl (record { fault = fault; cause = cause; told = (told.0, subst (λ old. Prints (output err.seen err.writes old err.new) fault) same told.1) })))
fails_told starts service files fault status out err mid (inr ended) (inr told) =
    inr (inr (inr (record { fault = fault; ended = ended; status_is = told.0; behind = mid; told = told.1 })))
