use Rattle.std.proofs.Common.{◌∙◌}
use Rattle.endpoints.proofs.Names.{result_ok, read_params, asked_of, query_of, form_of, hook_gone, hook_set_by, hook_points}
use Rattle.endpoints.proofs.ReadingOn.{points_of}
use Rattle.endpoints.proofs.Telling.{halts_by}
use Rattle.endpoints.proofs.reading.read.Goals as goal

pub returns-in-Err-clause-ends : goal.returns-in-Err-clause-ends
returns-in-Err-clause-ends c = λ history host moment draws.
    let asked = asked_of c.args.request.now in
    rw c.in-InstallHook.is (halts_by _ _ _ (c.in_ok-operator-in-InstallHook.ensures _
    ∙ points_of (result_ok (read_params (query_of asked.target))) (λ p. hook_set_by p asked.body) host.fault)
    (c.in-Err.ensures.leads (λ p. hook_points (hook_set_by p asked.body) host.fault)))

pub returns-in-Err-form-clause-ends : goal.returns-in-Err-form-clause-ends
returns-in-Err-form-clause-ends c = λ history host moment draws.
    let asked = asked_of c.args.request.now in
    rw c.in-RemoveHook.is (halts_by _ _ _ (c.in_ok-operator-in-RemoveHook.ensures _
    ∙ points_of (form_of asked) hook_gone host.fault)
    (c.in-Err-form.ensures (λ p. hook_points (hook_gone p) host.fault)))
