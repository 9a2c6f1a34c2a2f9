-- POST /revoke (RFC 7009, section 2)
use Rattle.std.specs.Prelude.{◌==◌, [], ◌∷◌, not, codes}
use Rattle.endpoints.specs.Names.{value_sent, Grant, InvalidRequest, InvalidGrant, Asked, plain, Empty, Outcome, point, need, refuse, bare, with_authenticated, Setting, live_token}
use Rattle.consent.specs.History.Change.{FamilyEnded}

-- the token is revoked, and its family with it
abbrev pub revoked : Grant → Outcome
revoked token = record { reply = plain 200 Empty; changes = FamilyEnded token.family ∷ [] }

abbrev pub revoke_token : Setting → Asked → Outcome
revoke_token setting asked =
    with_authenticated setting.rules asked (λ params known.
    -- 1. the token; nothing is to be done where it is not live
    need (value_sent (codes "token") params) (refuse InvalidRequest) (λ text.
    need (live_token setting.history setting.moment text) (bare 200) (λ token.
    -- 2. it is the client's
    point (not (token.client == known.number)) (refuse InvalidGrant)
    (revoked token))))
