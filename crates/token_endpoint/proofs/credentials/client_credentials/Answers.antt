use Rattle.std.proofs.Common.{ℕ, ap, subst, sym, ◌∙◌}
use Rattle.answers.specs.Requesters.{scope_within}
use Rattle.answers.specs.Setting.{HostSays, Setting}
use Rattle.answers.specs.Told.{Decides}
use Rattle.answers.specs.Views.{known_of, setting_of}
use Rattle.token_endpoint.specs.Grants.{left_by_host}
use Rattle.token_endpoint.proofs.Telling.{own_asked, own_told}
use Rattle.token_endpoint.proofs.credentials.client_credentials.Goals as goal

pub returns-clause-decides : goal.returns-clause-decides
returns-clause-decides g c = λ history names fault shows.
    let host : HostSays = record { answer = g.H.HookHost.answer c.args.host.now; names = names; fault = fault } in
    let s : Setting = setting_of c.args.view.now history host in
    let known = known_of c.args.known.now in
    let asked = c.ask_for-ask.ensures history host shows ∙ own_asked s known c.in-Some.scope (shows.consents.nobody known.number) in
    let within = ap (λ (limit : ℕ). scope_within s.rules limit c.args.params.now) (sym c.allowed.ensures) ∙ sym c.in-Some.ensures in
    let told = own_told s c.args.params.now known c.in-Some.scope c.decided.result within (c.decided.ensures ∙ ap (left_by_host s) asked) in
    subst (λ points. Decides s c.granted.result points) (sym told) (c.granted.ensures.decides history host shows)
