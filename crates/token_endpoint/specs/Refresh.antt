-- POST /token with grant_type refresh_token, which rotates (RFC 6749, section 6; RFC 9700, section 4.14.2)
use Rattle.std.specs.Prelude.{codes}
use Rattle.token_endpoint.specs.Names.{value_sent, is_spent, has_ended, InvalidRequest, InvalidGrant, InvalidScope, Outcome, point, need, refuse, unless_denied, Parameters, KnownClient, scope_within}
use Rattle.token_endpoint.specs.Names.{Setting, digest_told, refresh_of_client}
use Rattle.hook_record.specs.declared.Kind.TheVariants.{Refresh}
use Rattle.token_endpoint.specs.Exchange.{ends_family}
use Rattle.token_endpoint.specs.Grants.{ask_for, left_by_host, both_for}

-- an access token, and a refresh token of the scope of the one that is used
abbrev pub refresh : Setting → Parameters → KnownClient → Outcome
refresh setting params known =
    -- 1. what is sent
    need (value_sent (codes "refresh_token") params) (refuse InvalidRequest) (λ text.
    -- 2. an unexpired refresh token of the client
    need (digest_told text) (refuse InvalidGrant) (λ digest.
    need (refresh_of_client setting.history setting.moment known.number digest) (refuse InvalidGrant) (λ token.
    -- 3. used before, or its grant has ended
    point (is_spent setting.history digest setting.moment) (ends_family token)
    (point (has_ended setting.history token.family) (refuse InvalidGrant)
    -- 4. the scope that is asked for, within the token's
    (need (scope_within setting.rules token.scope params) (refuse InvalidScope) (λ scope.
    -- 5. what the host leaves; a refused token stays good
    unless_denied (left_by_host setting (ask_for setting known Refresh token.owner scope)) (refuse InvalidGrant) (refuse InvalidScope) (λ left.
    both_for setting token left token.scope)))))))
