-- POST /token (RFC 6749, section 3.2)
use Rattle.std.specs.Prelude.{not, codes}
use Rattle.token_endpoint.specs.Names.{value_sent, grant_named, has_grant, GrantType, AuthorizationCode, RefreshToken, ClientCredentials, InvalidRequest, UnauthorizedClient, UnsupportedGrantType}
use Rattle.token_endpoint.specs.Names.{Outcome, point, need, refuse, Parameters, KnownClient, with_authenticated, Setting}
use Rattle.messages.specs.Asked.{Asked}
use Rattle.token_endpoint.specs.Exchange.{exchange}
use Rattle.token_endpoint.specs.Refresh.{refresh}
use Rattle.token_endpoint.specs.ClientCredentials.{client_credentials}

-- the points of the grant type
abbrev pub grant_points : GrantType → Setting → Parameters → KnownClient → Outcome
grant_points AuthorizationCode setting params known = exchange setting params known
grant_points RefreshToken setting params known = refresh setting params known
grant_points ClientCredentials setting params known = client_credentials setting params known

-- the client is authenticated, and names a grant type that it may use
abbrev pub issue_token : Setting → Asked → Outcome
issue_token setting asked =
    with_authenticated setting.rules asked (λ params known.
    need (value_sent (codes "grant_type") params) (refuse InvalidRequest) (λ name.
    need (grant_named name) (refuse UnsupportedGrantType) (λ grant.
    point (not (has_grant grant known.client.grants)) (refuse UnauthorizedClient)
    (grant_points grant setting params known))))
