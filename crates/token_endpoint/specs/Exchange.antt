-- POST /token with grant_type authorization_code (RFC 6749, section 4.1.3; RFC 7636, section 4.6)
use Rattle.std.specs.Prelude.{[], ◌∷◌, not, codes, bytes_eq, if◌then◌else◌}
use Rattle.token_endpoint.specs.Names.{value_sent, ClientRecord, has_grant, RefreshToken, Grant, is_spent, has_ended, Spent, FamilyEnded, Code, InvalidRequest, InvalidGrant, InvalidScope, proves}
use Rattle.token_endpoint.specs.Names.{Extent, Outcome, point, need, refuse, unless_denied, Parameters, KnownClient, Setting, digest_told, code_of_client}
use Rattle.messages.specs.declared.error.ErrorName.{ErrorName}
use Rattle.messages.specs.Reply.{plain}
use Rattle.messages.specs.Reply.Body.{Failure}
use Rattle.token_endpoint.specs.Grants.{ask_for, left_by_host, access_for, both_for}

-- invalid_grant, and the family of the code or token ends with it
abbrev pub ends_family : Grant → Outcome
ends_family g = record { reply = plain 400 (Failure InvalidGrant); changes = FamilyEnded g.family ∷ [] }

-- the host refuses, and the code is spent
abbrev pub spent_in_vain : Grant → ErrorName → Outcome
spent_in_vain code error = record { reply = plain 400 (Failure error); changes = Spent code.digest ∷ [] }

-- an access token, and a refresh token of its scope where the client may use one
abbrev pub exchanged : Setting → ClientRecord → Grant → Extent → Outcome
exchanged setting client code left =
    if has_grant RefreshToken client.grants then both_for setting code left left.scope else access_for setting code left

abbrev pub exchange : Setting → Parameters → KnownClient → Outcome
exchange setting params known =
    -- 1. what is sent
    need (value_sent (codes "code") params) (refuse InvalidRequest) (λ text.
    need (value_sent (codes "redirect_uri") params) (refuse InvalidRequest) (λ uri.
    need (value_sent (codes "code_verifier") params) (refuse InvalidRequest) (λ verifier.
    -- 2. an unexpired code of the client
    need (digest_told text) (refuse InvalidGrant) (λ digest.
    need (code_of_client setting.history setting.moment known.number digest) (refuse InvalidGrant) (λ code.
    -- 3. used before, or its grant has ended
    point (is_spent setting.history digest setting.moment) (ends_family code)
    (point (has_ended setting.history code.family) (refuse InvalidGrant)
    -- 4. the redirect URI, and the proof of the challenge
    (point (not (bytes_eq uri code.redirect)) (refuse InvalidGrant)
    (point (not (proves verifier code.challenge)) (refuse InvalidGrant)
    -- 5. what the host leaves
    (unless_denied (left_by_host setting (ask_for setting known Code code.owner code.scope)) (spent_in_vain code InvalidGrant)
    (spent_in_vain code InvalidScope) (λ left.
    exchanged setting known.client code left))))))))))
