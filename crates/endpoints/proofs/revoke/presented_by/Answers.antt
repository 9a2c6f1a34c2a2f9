use Rattle.std.proofs.Common.{rules, ◌≡◌, None, Some, codes, refl, sym, subst, ◌∙◌}
use Rattle.endpoints.proofs.Names.{value_sent, asked_of, InvalidRequest, Halts, Outcome, need, refuse, KnownClient, Parameters, with_credentials, digest_told, Presented}
use Rattle.endpoints.proofs.revoke.presented_by.Goals as goal

abbrev named : Parameters → (Presented → Outcome) → KnownClient → Outcome
named params next known =
    need (value_sent (codes "token") params) (refuse InvalidRequest) (λ text. next (record { client = known.number; digest = digest_told text }))

pub returns-in-Err-authenticated_client : goal.returns-in-Err-authenticated_client
returns-in-Err-authenticated_client c = λ next.
    subst (λ (o : Outcome). Halts c.in-Err-authenticated_client.halt o)
    (sym (c.in-Ok.ensures (λ params. with_credentials c.args.rules.now (asked_of c.args.request.now) params (named params next))))
    (c.in-Err-authenticated_client.ensures (named c.in-Ok.params next))

pub returns-in_default : goal.returns-in_default
returns-in_default c = λ next.
    let none : value_sent (codes "token") c.in-Ok.params ≡ None = search rules in
    c.in-Ok.ensures (λ params. with_credentials c.args.rules.now (asked_of c.args.request.now) params (named params next))
    ∙ c.in-Ok-authenticated_client.ensures (named c.in-Ok.params next) ∙ rw none refl

pub returns : goal.returns
returns c = λ next.
    let text : value_sent (codes "token") c.in-Ok.params ≡ Some c.in-Some.text.now = search rules in
    let digest : digest_told c.in-Some.text.now ≡ c.digest_told.result = search rules in
    c.in-Ok.ensures (λ params. with_credentials c.args.rules.now (asked_of c.args.request.now) params (named params next))
    ∙ c.in-Ok-authenticated_client.ensures (named c.in-Ok.params next) ∙ rw (text, digest) refl
