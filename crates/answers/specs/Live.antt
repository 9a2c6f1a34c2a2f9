-- The live token of a digest.
use Rattle.std.specs.Prelude.{◌≡◌, ℕ, List, not, Option, Some, option_and_then, option_map}
use Rattle.answers.specs.Names.{Event, Grant, Found}
use Rattle.consent.specs.History.{is_code, live_grant}
use Rattle.answers.specs.Found.{grant_found}
use Rattle.answers.specs.Setting.{Setting}
use Rattle.answers.specs.Texts.{where_passes}

-- the live access or refresh token of the digest
abbrev pub live_of : List Event → ℕ → Option (List ℕ) → Option Grant
live_of history m told =
    where_passes (λ g. not (is_code g.kind)) (option_and_then (λ digest. live_grant history digest m) told)

-- it was found
abbrev pub FindsLive : List ℕ → Setting → Option Found → Type 0
FindsLive digest s found = option_map (grant_found digest) found ≡ live_of s.history s.moment (Some digest)
