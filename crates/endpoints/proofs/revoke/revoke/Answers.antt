use Rattle.std.proofs.Common.{ap, sym, None, ◌∙◌}
use Rattle.endpoints.proofs.Names.{asked_of, grant_found, setting_of, outcome_told, live_of}
use Rattle.endpoints.proofs.Telling.{revoked_as, revoked_by, own_revoked, other_refused, agrees, differs}
use Rattle.endpoints.proofs.revoke.revoke.Goals as goal

pub returns-in-Err-clause-decides : goal.returns-in-Err-clause-decides
returns-in-Err-clause-decides c = λ history host shows.
    c.in-Err.ensures (λ p. revoked_by p.client (live_of history c.args.view.now.moment p.digest))

pub returns-in_default-clause-decides : goal.returns-in_default-clause-decides
returns-in_default-clause-decides c = λ history host shows.
    ap (outcome_told (setting_of c.args.view.now history host)) c.done.ensures
    ∙ (sym (revoked_as (setting_of c.args.view.now history host) (asked_of c.args.request.now) c.in-Ok.presented.client _ None c.in-Ok.ensures (ap (live_of history c.args.view.now.moment) c.in_default.is)))

pub returns-in_default-live_token-clause-decides : goal.returns-in_default-live_token-clause-decides
returns-in_default-live_token-clause-decides c = λ history host shows.
    ap (outcome_told (setting_of c.args.view.now history host)) c.done-in_default-live_token.ensures
    ∙ (sym (revoked_as (setting_of c.args.view.now history host) (asked_of c.args.request.now) c.in-Ok.presented.client _ None c.in-Ok.ensures
    (ap (live_of history c.args.view.now.moment) c.in-Some.is ∙ sym (c.in_default-live_token.ensures history host shows))))

pub returns-then-ne-clause-decides : goal.returns-then-ne-clause-decides
returns-then-ne-clause-decides c = λ history host shows.
    let live = ap (live_of history c.args.view.now.moment) c.in-Some.is ∙ sym (c.in-Some-live_token.ensures history host shows) in
    revoked_as (setting_of c.args.view.now history host) (asked_of c.args.request.now) c.in-Ok.presented.client _ _ c.in-Ok.ensures live ∙ other_refused c.in-Ok.presented.client (grant_found c.in-Some.digest c.in-Some-live_token.token) (differs _ _ _ c.ne.ensures c.if-ne.true)

pub returns-clause-decides : goal.returns-clause-decides
returns-clause-decides c = λ history host shows.
    let live = ap (live_of history c.args.view.now.moment) c.in-Some.is ∙ sym (c.in-Some-live_token.ensures history host shows) in
    sym (revoked_as (setting_of c.args.view.now history host) (asked_of c.args.request.now) c.in-Ok.presented.client _ _ c.in-Ok.ensures live ∙ own_revoked c.in-Ok.presented.client (grant_found c.in-Some.digest c.in-Some-live_token.token) (agrees _ _ _ c.ne.ensures c.if-ne.false))
