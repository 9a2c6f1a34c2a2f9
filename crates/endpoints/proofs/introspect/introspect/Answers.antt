use Rattle.std.proofs.Common.{ap, sym, None, ◌∙◌, arith}
use Rattle.endpoints.proofs.Names.{asked_of, grant_found, setting_of, outcome_told, live_of}
use Rattle.endpoints.proofs.Telling.{introspected, active_told, code_told, told_by_live}
use Rattle.endpoints.proofs.introspect.introspect.Goals as goal

pub returns-in-Err-clause-decides : goal.returns-in-Err-clause-decides
returns-in-Err-clause-decides c = λ history host shows.
    c.in-Err.ensures (λ p. told_by_live c.args.view.now.rules.now (live_of history c.args.view.now.moment p.digest))

pub returns-in_default-clause-decides : goal.returns-in_default-clause-decides
returns-in_default-clause-decides c = λ history host shows.
    ap (outcome_told (setting_of c.args.view.now history host)) c.inactive.ensures
    ∙ (sym (introspected (setting_of c.args.view.now history host) (asked_of c.args.request.now) c.in-Ok.presented.client _ None c.in-Ok.ensures (ap (live_of history c.args.view.now.moment) c.in_default.is)))

pub returns-in_default-live_token-clause-decides : goal.returns-in_default-live_token-clause-decides
returns-in_default-live_token-clause-decides c = λ history host shows.
    ap (outcome_told (setting_of c.args.view.now history host)) c.inactive-in_default-live_token.ensures
    ∙ (sym (introspected (setting_of c.args.view.now history host) (asked_of c.args.request.now) c.in-Ok.presented.client _ None c.in-Ok.ensures
    (ap (live_of history c.args.view.now.moment) c.in-Some.is ∙ sym (c.in_default-live_token.ensures history host shows))))

pub returns-in_default-kind-clause-decides : goal.returns-in_default-kind-clause-decides
returns-in_default-kind-clause-decides c = λ history host shows.
    let live = ap (live_of history c.args.view.now.moment) c.in-Some.is ∙ sym (c.in-Some-live_token.ensures history host shows) in
    ap (outcome_told (setting_of c.args.view.now history host)) c.inactive-in_default-kind.ensures
    ∙ (sym (introspected (setting_of c.args.view.now history host) (asked_of c.args.request.now) c.in-Ok.presented.client _ _ c.in-Ok.ensures live ∙ code_told c.args.view.now.rules.now (grant_found c.in-Some.digest c.in-Some-live_token.token) c.in_default-kind.not-Token))

pub returns-clause-decides : goal.returns-clause-decides
returns-clause-decides c = λ history host shows.
    let live = ap (live_of history c.args.view.now.moment) c.in-Some.is ∙ sym (c.in-Some-live_token.ensures history host shows) in
    (sym (introspected (setting_of c.args.view.now history host) (asked_of c.args.request.now) c.in-Ok.presented.client _ _ c.in-Ok.ensures live
    ∙ active_told c.args.view.now.rules.now (grant_found c.in-Some.digest c.in-Some-live_token.token) c.in-Token.kind c.get-issued.result _ c.in-Token.is c.get-issued.ensures.value (omega (arith, c.get-issued.ensures.value, c.from.ensures))))
