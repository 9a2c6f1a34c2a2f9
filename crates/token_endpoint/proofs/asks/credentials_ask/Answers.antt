use Rattle.std.proofs.Common.{ℕ, ap, sym, ◌∙◌}
use Rattle.std.specs.Prelude.{Some}
use Rattle.answers.specs.Requesters.{scope_within}
use Rattle.answers.specs.Setting.{Setting}
use Rattle.answers.specs.Views.{known_of, setting_of}
use Rattle.token_endpoint.proofs.Asking.{credentials_asked}
use Rattle.token_endpoint.proofs.Telling.{own_asked}
use Rattle.token_endpoint.proofs.asks.credentials_ask.Goals as goal

pub returns : goal.returns
returns c = λ history host shows.
    let s : Setting = setting_of c.args.view.now history host in
    let known = known_of c.args.known.now in
    let within = ap (λ (limit : ℕ). scope_within s.rules limit c.args.params.now) (sym c.allowed.ensures) ∙ sym c.in-Some.ensures in
    ap Some (c.ask_for-ask.ensures history host shows ∙ own_asked s known c.in-Some.scope (shows.consents.nobody known.number))
    ∙ sym (credentials_asked s c.args.params.now known c.in-Some.scope within)
