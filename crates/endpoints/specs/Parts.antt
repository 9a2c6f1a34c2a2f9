-- Parts of the columns of points, and what is decided by them in a setting. Only the functions' own clauses cite this module.
use Rattle.std.specs.Prelude.{◌≡◌, ℕ, List, not, codes, bytes_eq, Option, Some, Result, Ok, Err, option_and_then, option_map}
use Rattle.endpoints.specs.Names.{value_sent, RegistryRecord, has_grant, AuthorizationCode, Event, Grant, live_grant, is_code, is_within, consented_scope, code_of, HookFault, Asked, ErrorName}
use Rattle.endpoints.specs.Names.{InvalidRequest, InvalidScope, UnauthorizedClient, UnsupportedResponseType, AccessDenied, FitsStore, Held, Outcome, point, need, refuse, Parameters, KnownClient}
use Rattle.endpoints.specs.Names.{client_named, owner_of_key, scope_asked, scope_within, with_authenticated, Setting, digest_told, where_passes, LeadsOrHalts, Halt}
use Rattle.consent.specs.History.{Change}
use Rattle.consent.specs.declared.change.CodeFacts.{CodeFacts}
pub use Rattle.answers.specs.Live.{FindsLive, live_of}
use Rattle.answers.specs.Views.{known_of}
use Rattle.endpoints.specs.declared.revoke.Presented.{Presented}
use Rattle.endpoints.specs.declared.authorize.Requester.{Requester}
use Rattle.endpoints.specs.declared.consenting.NewConsent.{NewConsent}
use Rattle.endpoints.specs.Authorize.{challenge_sent, code_sent_back, redirect_sent, turned_back}
use Rattle.endpoints.specs.ConsentPath.{consent_given}
use Rattle.endpoints.specs.HookPaths.{by_fault}

-- whatever history the store fits at the moment, it holds of it
abbrev pub WhereverFits : Held → ℕ → (List Event → Type 0) → Type 0
WhereverFits store moment claim = (history : List Event) → FitsStore store history moment → claim history

-- the points lead on to `next`, or to what is answered to an error
abbrev pub ComesTo : {A : Type 0} → Result A ErrorName → Outcome → (A → Outcome) → (ErrorName → Outcome) → Type 0
ComesTo (Ok x) points next refused = points ≡ next x
ComesTo (Err error) points next refused = points ≡ refused error

-- /authorize

-- the client and its redirect URI, and then the points that use them
abbrev pub known_points : RegistryRecord → Parameters → (KnownClient × List ℕ → Outcome) → Outcome
known_points rules params next =
    need (client_named rules params) (refuse InvalidRequest) (λ known.
    need (redirect_sent params known.client) (refuse InvalidRequest) (λ uri. next (known, uri)))

abbrev pub known_with : Requester → KnownClient × List ℕ
known_with requester = (known_of requester.known, requester.redirect.now)

-- these
abbrev pub authorize_known : Setting → Asked → Parameters → KnownClient → List ℕ → Outcome
authorize_known s asked params known uri =
    let turned = turned_back uri params in
    need (value_sent (codes "response_type") params) (turned InvalidRequest) (λ type.
    point (not (bytes_eq type (codes "code"))) (turned UnsupportedResponseType)
    (point (not (has_grant AuthorizationCode known.client.grants)) (turned UnauthorizedClient)
    (need (challenge_sent params) (turned InvalidRequest) (λ challenge.
    need (scope_within s.rules known.client.allowed params) (turned InvalidScope) (λ scope.
    need (owner_of_key s.rules asked) (turned AccessDenied) (λ owner.
    point (not (is_within scope (consented_scope s.history owner known.number))) (turned AccessDenied)
    (code_sent_back s params
    (record { client = known.number; owner = owner; scope = scope; redirect = uri; challenge = challenge }))))))))

-- the points of the parameters
abbrev pub query_points : Setting → Asked → Parameters → Outcome
query_points s asked params = known_points s.rules params (λ who. authorize_known s asked params who.0 who.1)

-- the code of these facts
abbrev pub code_by : Setting → Parameters → CodeFacts → Outcome
code_by s params facts = code_sent_back s params (code_of facts)

-- the points come to the code of these facts, or to an error that the user agent is sent back with
abbrev pub DecidesCode : Setting → Asked → Parameters → Requester → Result CodeFacts ErrorName → Type 0
DecidesCode s asked params requester result =
    ComesTo result (authorize_known s asked params (known_of requester.known) requester.redirect.now) (code_by s params)
    (turned_back requester.redirect.now params)

-- /consent

abbrev pub consent_points : Setting → Asked → Parameters → Outcome
consent_points s asked params =
    need (owner_of_key s.rules asked) (refuse AccessDenied) (λ owner.
    need (client_named s.rules params) (refuse InvalidRequest) (λ known.
    need (scope_asked s.rules 0 params) (refuse InvalidScope) (λ mask.
    consent_given s owner known.number mask)))

-- what comes of this consent
abbrev pub consent_by : Setting → NewConsent → Outcome
consent_by s new = consent_given s new.owner new.client new.mask

-- the points come to this consent, or halt
abbrev pub DecidesConsent : Setting → Asked → Parameters → Result NewConsent Halt → Type 0
DecidesConsent s asked params result = LeadsOrHalts result (consent_points s asked params) (consent_by s)

-- /revoke AND /introspect

-- the points "the client" and "a token", and then those of the client's number and the digest, where the text has one
abbrev pub with_presented : RegistryRecord → Asked → (Presented → Outcome) → Outcome
with_presented rules asked next =
    with_authenticated rules asked (λ params known.
    need (value_sent (codes "token") params) (refuse InvalidRequest) (λ text. next (record { client = known.number; digest = digest_told text })))

-- /hooks AND /hooks/remove

-- the change that is asked for, and what the host has for it
abbrev pub hook_points : Option Change → Option HookFault → Outcome
hook_points change fault = need change (refuse InvalidRequest) (λ change. by_fault change fault)
