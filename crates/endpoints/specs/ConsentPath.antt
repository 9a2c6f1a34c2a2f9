-- POST /consent
use Rattle.std.specs.Prelude.{ℕ, [], ◌∷◌, not}
use Rattle.endpoints.specs.Names.{scope_text, has_consent_room, InvalidRequest, InvalidScope, AccessDenied, Asked, consent_body, plain, Outcome, point, need, refuse, unavailable, with_form}
use Rattle.endpoints.specs.Names.{client_named, owner_of_key, scope_asked, Setting}
use Rattle.consent.specs.History.Change.{Consented}

-- the consent is kept. What it is too small for ends with it
abbrev pub consent_given : Setting → ℕ → ℕ → ℕ → Outcome
consent_given setting owner client mask =
    point (not (has_consent_room setting.rules.limits.consents setting.history owner client mask)) unavailable
    (record {
      reply = plain 200 (consent_body (scope_text setting.rules.scopes mask));
      changes = Consented owner client mask ∷ [];
    })

abbrev pub give_consent : Setting → Asked → Outcome
give_consent setting asked =
    with_form asked (λ params.
    -- 1. the owner
    need (owner_of_key setting.rules asked) (refuse AccessDenied) (λ owner.
    -- 2. the client
    need (client_named setting.rules params) (refuse InvalidRequest) (λ known.
    -- 3. the scope: none is nothing
    need (scope_asked setting.rules 0 params) (refuse InvalidScope) (λ mask.
    consent_given setting owner known.number mask))))
