use Rattle.std.proofs.Common.{ap, sym, ◌∙◌}
use Rattle.std.specs.Prelude.{Some}
use Rattle.answers.specs.Found.{grant_found}
use Rattle.answers.specs.Setting.{Setting}
use Rattle.answers.specs.Views.{known_of, setting_of}
use Rattle.token_endpoint.proofs.Asking.{refresh_asked}
use Rattle.token_endpoint.proofs.asks.refresh_ask.Goals as goal

pub returns : goal.returns
returns c = λ history host shows.
    let s : Setting = setting_of c.args.view.now history host in
    let found = c.in-Some-own_token.ensures.found history shows in
    let token = grant_found c.in-Some-digest_told.digest c.in-Some-own_token.token in
    ap Some (c.ask_for-ask.ensures history host shows)
    ∙ sym (refresh_asked s c.args.params.now (known_of c.args.known.now) c.in-Some.text.now c.in-Some-digest_told.digest token
    c.in-Some-scope_within.scope (sym c.in-Some.ensures) (sym c.in-Some-digest_told.ensures) (sym (c.in-Some-own_token.ensures.value history shows))
    (sym found.spent_is ∙ c.if-token.false) (sym found.ended_is ∙ c.if-token-2.false) (sym c.in-Some-scope_within.ensures))
