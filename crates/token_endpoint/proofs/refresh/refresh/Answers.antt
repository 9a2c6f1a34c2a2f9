use Rattle.std.proofs.Common.{ap, subst, sym, ◌∙◌}
use Rattle.answers.specs.Found.{grant_found}
use Rattle.answers.specs.Setting.{HostSays, Setting}
use Rattle.answers.specs.Told.{Decides}
use Rattle.answers.specs.Views.{known_of, setting_of}
use Rattle.token_endpoint.specs.Grants.{left_by_host}
use Rattle.token_endpoint.proofs.Telling.{refresh_told}
use Rattle.token_endpoint.proofs.refresh.refresh.Goals as goal

pub returns-clause-decides : goal.returns-clause-decides
returns-clause-decides g c = λ history names fault shows.
    let host : HostSays = record { answer = g.H.HookHost.answer c.args.host.now; names = names; fault = fault } in
    let s : Setting = setting_of c.args.view.now history host in
    let found = c.in-Some-own_token.ensures.found history shows in
    let token = grant_found c.in-Some-digest_told.digest c.in-Some-own_token.token in
    let left = c.decided.ensures ∙ ap (left_by_host s) (c.ask_for-ask.ensures history host shows) in
    subst (λ points. Decides s c.refreshed.result points)
    (sym (refresh_told s c.args.params.now (known_of c.args.known.now) c.in-Some.text.now c.in-Some-digest_told.digest token
    c.in-Some-scope_within.scope c.decided.result (sym c.in-Some.ensures) (sym c.in-Some-digest_told.ensures)
    (sym (c.in-Some-own_token.ensures.value history shows)) (sym found.spent_is ∙ c.if-token.false) (sym found.ended_is ∙ c.if-token-2.false)
    (sym c.in-Some-scope_within.ensures) left))
    (c.refreshed.ensures.decides history host shows found)
