use Rattle.std.proofs.Common.{◌≡◌, rules}
use Rattle.std.specs.Prelude.{Err}
use Rattle.standby.specs.Opened.{elsewhere, memory, stopped}
use Rattle.standby.specs.declared.fault.ListFault.TheVariants.{Memory}
use Rattle.standby.proofs.opening.await_list.Goals as goal

pub returns-in_err-names-clause-stopped : goal.returns-in_err-names-clause-stopped
returns-in_err-names-clause-stopped g c =
    let is : c.from_residual.result ≡ Err Memory = search rules in
    rw is memory

pub returns-in_err-led-clause-stopped : goal.returns-in_err-led-clause-stopped
returns-in_err-led-clause-stopped g c =
    let fault = c.in_err-led.field-0.0 in
    let is : c.from_residual-in_err-led.result ≡ Err fault = search rules in
    rw (is, ← c.in_ok-names.ensures) (stopped _ fault c.in_err-led.ensures.refused)

pub returns-in_err-refuse_other-clause-stopped : goal.returns-in_err-refuse_other-clause-stopped
returns-in_err-refuse_other-clause-stopped g c =
    let fault = c.in_err-refuse_other.field-0.0 in
    let is : c.from_residual-in_err-refuse_other.result ≡ Err fault = search rules in
    rw (is, c.in_err-refuse_other.ensures.other.0, ← c.in_ok-names.ensures) (elsewhere _ _ c.in_err-refuse_other.ensures.other.1)
