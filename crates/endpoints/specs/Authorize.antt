-- GET /authorize (RFC 6749, section 4.1.1; RFC 7636, section 4.3)
use Rattle.std.specs.Prelude.{◌&&◌, ◌≤◌, ℕ, List, [], ◌∷◌, not, Option, codes, bytes_eq, length, option_and_then, unwrap_or}
use Rattle.endpoints.specs.Names.{result_ok, read_params, value_sent, ClientRecord, has_redirect, has_grant, AuthorizationCode, is_within, consented_scope, GivenCode, Asked, query_of, ErrorName}
use Rattle.endpoints.specs.Names.{InvalidRequest, InvalidScope, UnauthorizedClient, UnsupportedResponseType, AccessDenied, sent_back, error_text, Outcome, point, need, only, refuse, unavailable, unless_taken}
use Rattle.endpoints.specs.Names.{Parameters, client_named, owner_of_key, scope_within, Setting, state_limit, where_passes}
use Rattle.sha2.specs.Sha256.{sha256}
use Rattle.pkce.specs.Proof.{is_challenge}
use Rattle.pkce.specs.Token.{token_text}
use Rattle.consent.specs.History.{next_family}
use Rattle.consent.specs.History.Change.{CodeGiven}

-- the point "the parameters of the query"
abbrev pub with_query : Asked → (Parameters → Outcome) → Outcome
with_query asked next = need (result_ok (read_params (query_of asked.target))) (refuse InvalidRequest) next

-- the redirect URI, which is one of the client's
abbrev pub redirect_sent : Parameters → ClientRecord → Option (List ℕ)
redirect_sent params client = where_passes (λ uri. has_redirect uri client) (value_sent (codes "redirect_uri") params)

-- the state, if it was sent
abbrev pub state_sent : Parameters → Option (List ℕ)
state_sent params = value_sent (codes "state") params

-- what is sent back as the state is short
abbrev pub HasShortState : Parameters → Type 0
HasShortState params = length (unwrap_or (state_sent params) []) ≤ state_limit

-- the user agent is sent back with an error (RFC 6749, section 4.1.2.1)
abbrev pub turned_back : List ℕ → Parameters → ErrorName → Outcome
turned_back uri params error = only (sent_back uri (codes "error") (error_text error) (state_sent params))

-- the challenge, where its method is S256
abbrev pub challenge_sent : Parameters → Option (List ℕ)
challenge_sent params =
    option_and_then
    (λ method. where_passes (λ challenge. bytes_eq method (codes "S256") && is_challenge challenge) (value_sent (codes "code_challenge") params))
    (value_sent (codes "code_challenge_method") params)

-- The user agent is sent back with a code, which opens a family, as long as there is a number for one: its text is the draw's,
-- and its digest is kept.
abbrev pub code_sent_back : Setting → Parameters → GivenCode → Outcome
code_sent_back setting params code =
    let digest = sha256 setting.draws.first in
    need (next_family setting.history) unavailable (λ family.
    unless_taken setting code.client (digest ∷ [])
    (record {
      reply = sent_back code.redirect (codes "code") (token_text setting.draws.first) (state_sent params);
      changes = CodeGiven family code digest ∷ [];
    }))

abbrev pub authorize : Setting → Asked → Outcome
authorize setting asked =
    -- 1. the client and its redirect URI; without them nobody is sent anywhere
    with_query asked (λ params.
    need (client_named setting.rules params) (refuse InvalidRequest) (λ known.
    need (redirect_sent params known.client) (refuse InvalidRequest) (λ uri.
    let turned = turned_back uri params in
    -- 2. the response type
    need (value_sent (codes "response_type") params) (turned InvalidRequest) (λ type.
    point (not (bytes_eq type (codes "code"))) (turned UnsupportedResponseType)
    -- 3. the client may use codes
    (point (not (has_grant AuthorizationCode known.client.grants)) (turned UnauthorizedClient)
    -- 4. the challenge
    (need (challenge_sent params) (turned InvalidRequest) (λ challenge.
    -- 5. the scope that is asked for, within what the client may have
    need (scope_within setting.rules known.client.allowed params) (turned InvalidScope) (λ scope.
    -- 6. the owner, who consents to it
    need (owner_of_key setting.rules asked) (turned AccessDenied) (λ owner.
    point (not (is_within scope (consented_scope setting.history owner known.number))) (turned AccessDenied)
    (code_sent_back setting params
    (record { client = known.number; owner = owner; scope = scope; redirect = uri; challenge = challenge })))))))))))
