use Rattle.std.proofs.Common.{subst, sym, ◌∙◌}
use Rattle.messages.specs.Asked.{asked_of}
use Rattle.answers.specs.Requesters.{with_credentials}
use Rattle.answers.specs.Setting.{Setting}
use Rattle.answers.specs.Told.{Decides}
use Rattle.answers.specs.Views.{setting_of}
use Rattle.token_endpoint.specs.Parts.{token_points}
use Rattle.token_endpoint.proofs.token.decide.Goals as goal

pub returns-clause-decides : goal.returns-clause-decides
returns-clause-decides g c = λ history names fault shows.
    let s : Setting = setting_of c.args.view.now history (record { answer = g.H.HookHost.answer c.args.host.now; names = names; fault = fault }) in
    subst (λ points. Decides s c.decide_for.result points)
    (sym (c.in_ok-params.ensures (λ params. with_credentials s.rules (asked_of c.args.request.now) params (token_points s params)) ∙ c.in-Ok.ensures _))
    (c.decide_for.ensures.decides history names fault shows)
