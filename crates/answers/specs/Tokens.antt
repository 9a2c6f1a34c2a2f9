-- The codes and tokens that a request presents.
use Rattle.std.specs.Prelude.{◌==◌, ◌&&◌, ℕ, List, Bool, true, false, not, Option, option_and_then}
use Rattle.consent.specs.History.{Event, Grant, grant_at, live_grant, is_code}
use Rattle.consent.specs.declared.grant.Kind.{Kind}
use Rattle.consent.specs.declared.grant.Kind.TheVariants.{Token}
use Rattle.consent.specs.declared.grant.TokenKind.TheVariants.{Refresh}
use Rattle.answers.specs.Texts.{digest_told, where_passes}

-- it is a refresh token
abbrev pub is_refresh : Kind → Bool
is_refresh (Token Refresh) = true
is_refresh _ = false

-- it is of this kind and this client's
abbrev pub is_own : (Kind → Bool) → ℕ → Grant → Bool
is_own test client g = test g.kind && (g.client == client)

-- the unexpired code of the digest, spent or not, if it is this client's
abbrev pub code_of_client : List Event → ℕ → ℕ → List ℕ → Option Grant
code_of_client history m client digest = where_passes (is_own is_code client) (grant_at history digest m)

-- the unexpired refresh token of the digest, spent or not, if it is this client's
abbrev pub refresh_of_client : List Event → ℕ → ℕ → List ℕ → Option Grant
refresh_of_client history m client digest = where_passes (is_own is_refresh client) (grant_at history digest m)

-- the live access or refresh token of the text
abbrev pub live_token : List Event → ℕ → List ℕ → Option Grant
live_token history m text =
    where_passes (λ g. not (is_code g.kind)) (option_and_then (λ digest. live_grant history digest m) (digest_told text))
