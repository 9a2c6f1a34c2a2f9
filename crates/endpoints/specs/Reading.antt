-- What was read of a request.
use Rattle.std.specs.Prelude.{◌≡◌, ℕ, List}
use Rattle.endpoints.specs.Names.{RegistryRecord, Event, Asked, Draws, Halts, Outcome, Parameters, with_form, HostSays, Halt, Endpoint, Reading}
use Rattle.answers.specs.declared.endpoint.Endpoint.TheVariants as endpoint
use Rattle.endpoints.specs.declared.reading.Reading.TheVariants.{Authorize, GiveConsent, IssueToken, RevokeToken, Introspect, InstallHook, RemoveHook, EndOwner, Read}
use Rattle.endpoints.specs.Authorize.{HasShortState, with_query}
use Rattle.endpoints.specs.HookPaths.{with_operator}
use Rattle.endpoints.specs.Replies.{outcome_at}

-- the endpoint that is asked
abbrev pub endpoint_of : Reading → Endpoint
endpoint_of (Authorize params) = endpoint.Authorize
endpoint_of GiveConsent = endpoint.GiveConsent
endpoint_of IssueToken = endpoint.IssueToken
endpoint_of RevokeToken = endpoint.RevokeToken
endpoint_of Introspect = endpoint.Introspect
endpoint_of (InstallHook params) = endpoint.InstallHook
endpoint_of (RemoveHook params) = endpoint.RemoveHook
endpoint_of EndOwner = endpoint.EndOwner
endpoint_of (Read document) = endpoint.Read document

-- what is sent back of it is short
abbrev pub IsShortReading : Reading → Type 0
IsShortReading (Authorize params) = HasShortState params
IsShortReading _ = Unit {0}

-- the first points lead on to those of what was read
abbrev pub IsRequestRead : RegistryRecord → Asked → Reading → Type 0
IsRequestRead rules asked (Authorize params) = (next : Parameters → Outcome) → with_query asked next ≡ next params
IsRequestRead rules asked (InstallHook params) =
    (next : Parameters → Outcome) → with_operator rules asked (with_query asked next) ≡ next params
IsRequestRead rules asked (RemoveHook params) =
    (next : Parameters → Outcome) → with_operator rules asked (with_form asked next) ≡ next params
IsRequestRead rules asked _ = Unit {0}

-- or one of them ends the request
abbrev pub EndsAt : Endpoint → RegistryRecord → Asked → Halt → Type 0
EndsAt endpoint rules asked halt =
    (history : List Event) (host : HostSays) (moment : ℕ) (draws : Draws) →
    Halts halt (outcome_at endpoint (record { rules = rules; history = history; host = host; moment = moment; draws = draws }) asked)
