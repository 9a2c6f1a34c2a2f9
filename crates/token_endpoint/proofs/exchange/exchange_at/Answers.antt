use Rattle.std.proofs.Common.{ap, sym, ◌∙◌}
use Rattle.answers.specs.Found.{grant_found}
use Rattle.answers.specs.Setting.{HostSays, Setting}
use Rattle.answers.specs.Views.{known_of, setting_of}
use Rattle.token_endpoint.specs.Grants.{left_by_host}
use Rattle.token_endpoint.proofs.Telling.{code_told, code_unspent}
use Rattle.token_endpoint.proofs.exchange.exchange_at.Goals as goal

pub returns-clause-decides : goal.returns-clause-decides
returns-clause-decides g c = λ history names fault shows.
    let host : HostSays = record { answer = g.H.HookHost.answer c.args.host.now; names = names; fault = fault } in
    let s : Setting = setting_of c.args.view.now history host in
    let found = c.in-Some.ensures.found history shows in
    let code = grant_found c.args.sent.now.digest c.in-Some.code in
    let unspent = sym found.spent_is ∙ c.if-code.false in
    let left = c.decided-left.ensures ∙ ap (left_by_host s) (c.ask_for-ask.ensures history host shows) in
    c.exchanged.ensures.decides history host shows found
    ∙ sym (code_told s (known_of c.args.known.now) c.args.sent.now code c.decided-left.result
    (code_unspent history s.moment c.args.known.now.number c.args.sent.now.digest code (c.in-Some.ensures.value history shows) unspent) unspent (sym found.ended_is ∙ c.if-code-2.false)
    (sym c.ne.ensures ∙ c.if-ne.false) (sym c.matches.ensures ∙ c.if-not-matches.false) left)
