use Rattle.std.proofs.Common.{subst, sym}
use Rattle.answers.specs.Setting.{Setting}
use Rattle.answers.specs.Told.{Decides}
use Rattle.answers.specs.Views.{known_of, setting_of}
use Rattle.token_endpoint.proofs.Telling.{exchange_told}
use Rattle.token_endpoint.proofs.exchange.exchange.Goals as goal

pub returns-clause-decides : goal.returns-clause-decides
returns-clause-decides g c = λ history names fault shows.
    let s : Setting = setting_of c.args.view.now history (record { answer = g.H.HookHost.answer c.args.host.now; names = names; fault = fault }) in
    subst (λ points. Decides s c.exchange_at.result points)
    (sym (exchange_told s c.args.params.now (known_of c.args.known.now) c.in-Some.text.now
    (record { digest = c.in-Some-digest_told.digest; uri = c.in-Some-get.uri; verifier = c.in-Some-get-2.verifier })
    (sym c.in-Some.ensures) (sym c.in-Some-get.ensures) (sym c.in-Some-get-2.ensures) (sym c.in-Some-digest_told.ensures)))
    (c.exchange_at.ensures.decides history names fault shows)
