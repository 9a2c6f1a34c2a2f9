-- POST /token with grant_type client_credentials (RFC 6749, section 4.4)
use Rattle.std.specs.Prelude.{ℕ, [], ◌∷◌}
use Rattle.token_endpoint.specs.Names.{sha256, Ask, InvalidScope, UnauthorizedClient, Extent, Outcome, need, refuse, unless_denied, unless_taken, access_reply, Parameters, KnownClient, scope_within}
use Rattle.token_endpoint.specs.Names.{Setting}
use Rattle.answers.specs.Outcomes.{unavailable}
use Rattle.consent.specs.History.{next_family}
use Rattle.hook_record.specs.declared.Kind.TheVariants as kind
use Rattle.token_endpoint.specs.Grants.{ask_for, issued_alone, left_by_host}

-- a grant to a client itself: no owner consents to it
abbrev pub own_ask : Setting → KnownClient → ℕ → Ask
own_ask setting known scope = record (ask_for setting known kind.ClientCredentials 0 scope) { consented = 0 }

-- an access token of the client's own, in a family of its own, as long as there is a number for one
abbrev pub granted : Setting → ℕ → Extent → Outcome
granted setting client left =
    need (next_family setting.history) unavailable (λ family.
    unless_taken setting client (sha256 setting.draws.first ∷ [])
    (record {
      reply = access_reply setting.rules setting.draws.first left.scope left.life;
      changes = issued_alone setting family client left ∷ [];
    }))

abbrev pub client_credentials : Setting → Parameters → KnownClient → Outcome
client_credentials setting params known =
    -- 1. the scope that is asked for, within what the client may have
    need (scope_within setting.rules known.client.allowed params) (refuse InvalidScope) (λ scope.
    -- 2. what the host leaves
    unless_denied (left_by_host setting (own_ask setting known scope)) (refuse UnauthorizedClient) (refuse InvalidScope) (λ left.
    granted setting known.number left))
