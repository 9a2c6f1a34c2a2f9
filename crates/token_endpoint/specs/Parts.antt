-- Parts of the columns of points. Only the functions' own clauses cite this module.
use Rattle.std.specs.Prelude.{ℕ, List, Option, not, codes, bytes_eq}
use Rattle.answers.specs.Texts.{where_passes}
use Rattle.answers.specs.Tokens.{is_own}
use Rattle.consent.specs.History.{Event, is_code}
use Rattle.consent.specs.Seen.{told_at}
use Rattle.token_endpoint.specs.Names.{value_sent, proves, ClientRecord, grant_named, has_grant, GrantType, Grant, is_spent, has_ended, Ask, Code, Narrowed, InvalidRequest, InvalidGrant}
use Rattle.token_endpoint.specs.Names.{InvalidScope, UnauthorizedClient, UnsupportedGrantType, Outcome, point, need, refuse, unless_denied, Parameters, KnownClient, Setting, code_of_client}
use Rattle.consent.specs.Owners.{owner_number}
use Rattle.token_endpoint.specs.ClientCredentials.{granted}
use Rattle.token_endpoint.specs.Exchange.{ends_family, exchanged, spent_in_vain}
use Rattle.token_endpoint.specs.Grants.{ask_for, both_for, left_by_host}
use Rattle.token_endpoint.specs.TokenPath.{grant_points}
use Rattle.token_endpoint.specs.declared.exchange.Presented.{Presented}
use Rattle.token_endpoint.specs.declared.granting.Wish.{Wish}

-- the ask of a grant to the client
abbrev pub wished : Setting → KnownClient → Wish → Ask
wished s known wish = ask_for s known wish.kind (owner_number wish.owner) wish.scope

-- the grant type, which the client may use
abbrev pub type_points : Parameters → ClientRecord → (GrantType → Outcome) → Outcome
type_points params client next =
    need (value_sent (codes "grant_type") params) (refuse InvalidRequest) (λ name.
    need (grant_named name) (refuse UnsupportedGrantType) (λ grant.
    point (not (has_grant grant client.grants)) (refuse UnauthorizedClient) (next grant)))

-- POST /token, once the client is known
abbrev pub token_points : Setting → Parameters → KnownClient → Outcome
token_points s params known = type_points params known.client (λ grant. grant_points grant s params known)

-- the unexpired code of the digest, if it is this client's, as it is told
abbrev pub told_code : List Event → ℕ → ℕ → List ℕ → Option Grant
told_code history m client digest = where_passes (is_own is_code client) (told_at history digest m)

-- the exchange of the client's code, by what the host left
abbrev pub exchanged_by : Setting → ClientRecord → Grant → Narrowed → Outcome
exchanged_by s client code narrowed =
    unless_denied narrowed (spent_in_vain code InvalidGrant) (spent_in_vain code InvalidScope) (λ left. exchanged s client code left)

-- the points from the code's on
abbrev pub exchange_at : Setting → KnownClient → Presented → Outcome
exchange_at s known sent =
    need (code_of_client s.history s.moment known.number sent.digest) (refuse InvalidGrant) (λ code.
    point (is_spent s.history sent.digest s.moment) (ends_family code)
    (point (has_ended s.history code.family) (refuse InvalidGrant)
    (point (not (bytes_eq sent.uri.now code.redirect)) (refuse InvalidGrant)
    (point (not (proves sent.verifier.now code.challenge)) (refuse InvalidGrant)
    (exchanged_by s known.client code (left_by_host s (ask_for s known Code code.owner code.scope)))))))

-- the use of the refresh token
abbrev pub refreshed_by : Setting → Grant → Narrowed → Outcome
refreshed_by s token narrowed =
    unless_denied narrowed (refuse InvalidGrant) (refuse InvalidScope) (λ left. both_for s token left token.scope)

-- and a client's own grant
abbrev pub granted_by : Setting → ℕ → Narrowed → Outcome
granted_by s client narrowed =
    unless_denied narrowed (refuse UnauthorizedClient) (refuse InvalidScope) (λ left. granted s client left)
