use Rattle.std.proofs.Common.{◌≡◌, ◌∙◌, ◌⊎◌, inl, inr, ℕ, List, Some, sym, ap, subst}
use Rattle.state_file.proofs.Names.{outset_of, RefuseServer, RefusesResume, RegistryRecord, StateFault}
use Rattle.state_file.specs.Faults.{of_reading}
use Rattle.state_file.specs.Going.{HasGone}
use Rattle.state_file.specs.Making.{StopsReading}
use Rattle.state_file.proofs.Refused.{no_start}
use Rattle.state_file.proofs.Resumed.{always_err, always_ok, file_refused, hookless, if_err, if_ok, stops_reading}
use Rattle.state_file.proofs.resuming.resume.Goals as goal

pub returns-in-Ok-clause-over : goal.returns-in-Ok-clause-over
returns-in-Ok-clause-over g c = always_ok c.resume.result _ c.in-Ok.ensures.over

pub returns-in-Ok-clause-readable : goal.returns-in-Ok-clause-readable
returns-in-Ok-clause-readable g c = always_ok c.resume.result _ c.in-Ok.ensures.readable

pub returns-in-Ok-clause-damaged : goal.returns-in-Ok-clause-damaged
returns-in-Ok-clause-damaged g c = always_err c.resume.result _ (λ not. inr c.in-Ok.ensures.readable)

pub returns-in-Ok-clause-resumed : goal.returns-in-Ok-clause-resumed
returns-in-Ok-clause-resumed g c =
    let outset = outset_of c.args.registry c.args.host in
    let over = c.in-Ok.ensures in
    let has : HasGone g.H.HookHost outset c.in-Ok.field-0.gone = over.gone outset c.new-gone.ensures.gone in
    if_ok c.resume.result _ _ (λ resumed is. is outset has (g.S.ByteSource.told c.in-Ok.field-0.read.source) over.front over.torn) c.resume.ensures.resumed

pub returns-in-Ok-clause-refused : goal.returns-in-Ok-clause-refused
returns-in-Ok-clause-refused g c =
    let hosting = g.H.HookHost in
    let outset = outset_of c.args.registry c.args.host in
    let over = c.in-Ok.ensures in
    let has : HasGone hosting outset c.in-Ok.field-0.gone = over.gone outset c.new-gone.ensures.gone in
    if_err c.resume.result _ _
    (λ not refused. inr (
      over.over,
      no_start hosting outset (g.S.ByteSource.told c.in-Ok.field-0.read.source) not.fault (subst (λ (bs : List (List ℕ)). RefuseServer hosting outset bs not.fault) over.front (refused outset has)),
    )) c.resume.ensures.refused

pub returns-in-Ok-clause-back : goal.returns-in-Ok-clause-back
returns-in-Ok-clause-back g c =
    let outset = outset_of c.args.registry c.args.host in
    let has : HasGone g.H.HookHost outset c.in-Ok.field-0.gone = c.in-Ok.ensures.gone outset c.new-gone.ensures.gone in
    if_err c.resume.result _ _ (λ not back gives. back outset has gives ∙ ap (λ (rules : RegistryRecord). Some rules) has.rules_are) c.resume.ensures.back

pub returns-in-Ok-clause-hookless : goal.returns-in-Ok-clause-hookless
returns-in-Ok-clause-hookless g c =
    let outset = outset_of c.args.registry c.args.host in
    let has : HasGone g.H.HookHost outset c.in-Ok.field-0.gone = c.in-Ok.ensures.gone outset c.new-gone.ensures.gone in
    if_err c.resume.result _ _ (λ not refused is. hookless g.H.HookHost outset c.in-Ok.field-0.gone.front.batches not.fault (refused outset has) is) c.resume.ensures.refused

pub returns-in-Err-clause-refused : goal.returns-in-Err-clause-refused
returns-in-Err-clause-refused g c =
    let hosting = g.H.HookHost in
    let outset = outset_of c.args.registry c.args.host in
    let source = c.in-Err.field-0.source in
    let told = g.S.ByteSource.told source in
    let either : StopsReading (of_reading c.in-Err.field-0.fault) ⊎ (g.S.ByteSource.is_over source × RefusesResume hosting outset told (of_reading c.in-Err.field-0.fault)) =
    elim c.in-Err.ensures.refused [
      | inl unread ↦ inl (stops_reading c.in-Err.field-0.fault unread)
      | inr refused ↦ inr (refused.0, file_refused hosting outset told c.in-Err.field-0.fault refused.1)
    ] in
    subst (λ (f : StateFault). StopsReading f ⊎ (g.S.ByteSource.is_over source × RefusesResume hosting outset told f)) (sym c.from.ensures) either
