use Rattle.std.proofs.Common.{ap, sym, ◌∙◌}
use Rattle.std.specs.Prelude.{Some}
use Rattle.answers.specs.Found.{grant_found}
use Rattle.answers.specs.Setting.{Setting}
use Rattle.answers.specs.Views.{known_of, setting_of}
use Rattle.token_endpoint.proofs.Asking.{exchange_asked}
use Rattle.token_endpoint.proofs.Telling.{code_unspent}
use Rattle.token_endpoint.proofs.asks.exchange_ask.Goals as goal

pub returns : goal.returns
returns c = λ history host shows.
    let s : Setting = setting_of c.args.view.now history host in
    let found = c.in-Some-own_code.ensures.found history shows in
    let code = grant_found c.in-Some-digest_told.digest c.in-Some-own_code.code in
    let unspent = sym found.spent_is ∙ c.if-code.false in
    ap Some (c.ask_for-ask.ensures history host shows)
    ∙ sym (exchange_asked s c.args.params.now (known_of c.args.known.now) c.in-Some.text.now c.in-Some-digest_told.digest c.in-Some-get.uri.now c.in-Some-get-2.verifier.now
    code (sym c.in-Some.ensures) (sym c.in-Some-get.ensures) (sym c.in-Some-get-2.ensures) (sym c.in-Some-digest_told.ensures)
    (code_unspent history s.moment c.args.known.now.number c.in-Some-digest_told.digest code (c.in-Some-own_code.ensures.value history shows) unspent) unspent (sym found.ended_is ∙ c.if-code-2.false)
    (sym c.ne.ensures ∙ c.if-ne.false) (sym c.matches.ensures ∙ c.if-not-matches.false))
