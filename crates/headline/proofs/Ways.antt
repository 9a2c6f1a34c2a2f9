-- What holds on each way that a request may go, holds of its outcome.
use Rattle.std.proofs.Common.{◌≡◌, List, true, Some, inl, inr, refl, arith}
use Rattle.headline.proofs.Names.{RegistryRecord, path_of, Empty, Endpoint, Authorize, GiveConsent, IssueToken, RevokeToken, Introspect, InstallHook, RemoveHook, EndOwner, Read, Outcome, bare}
use Rattle.headline.proofs.Names.{Asked, bytes_eq-Decides, endpoint_at, method_at, installation, removal, Setting, outcome_at, Occasion, GoesTo, outcome_of, setting_on}
use Rattle.std.specs.Prelude.{bytes_eq}
use Rattle.answers.specs.Paths.{path_at}
use Rattle.answers.specs.declared.endpoint.TheConstants.{ENDPOINTS}
use Rattle.consent.specs.History.{Event}
use Rattle.consent.specs.ListLaws.{find-passes}
use Rattle.endpoints.proofs.Walking.{at_chosen, at_need, at_unless, other}
use Rattle.endpoints.proofs.Ways.{IsAt, Way, Quiet, ByToken, Wanting, outcome_by, token_at, at_authorize, at_consent, at_token, at_revoke, at_introspect, at_owner, at_hooks, at_document}

-- its path and its method are the endpoint's
abbrev pub IsSentTo : Occasion → Endpoint → Type 0
IsSentTo occasion endpoint =
    (endpoint_at (path_of occasion.arrival.asked.target) ≡ Some endpoint) × (bytes_eq occasion.arrival.asked.method (method_at endpoint) ≡ true)

-- so its path is, byte by byte
pub path_is : (occasion : Occasion) (endpoint : Endpoint) → IsSentTo occasion endpoint → bytes_eq (path_of occasion.arrival.asked.target) (path_at endpoint) ≡ true
path_is occasion endpoint sent = find-passes (λ e. bytes_eq (path_of occasion.arrival.asked.target) (path_at e)) ENDPOINTS endpoint sent.0

pub goes_to : (occasion : Occasion) (endpoint : Endpoint) → IsSentTo occasion endpoint → GoesTo occasion (path_at endpoint)
goes_to occasion endpoint sent =
    (bytes_eq-Decides (path_of occasion.arrival.asked.target) (path_at endpoint)).0 (path_is occasion endpoint sent)

module _ (P : Outcome → Type 0) (rules : RegistryRecord) (history : List Event) (occasion : Occasion)
    (ways : (way : Way (setting_on rules history occasion) occasion.arrival.asked) → IsAt (IsSentTo occasion) way → P (outcome_by way)) where
  abbrev s : Setting
  s = setting_on rules history occasion

  abbrev asked : Asked
  asked = occasion.arrival.asked

  at_endpoint : (endpoint : Endpoint) → IsSentTo occasion endpoint → P (outcome_at endpoint s asked)
  at_endpoint Authorize sent = at_authorize P s asked (IsSentTo occasion) ways sent
  at_endpoint GiveConsent sent = at_consent P s asked (IsSentTo occasion) ways sent
  at_endpoint IssueToken sent = at_token (λ o _. P o) s asked (λ way _. ways (ByToken way) (token_at (IsSentTo occasion) way sent))
  at_endpoint RevokeToken sent = at_revoke P s asked (IsSentTo occasion) ways sent
  at_endpoint Introspect sent = at_introspect P s asked (IsSentTo occasion) ways
  at_endpoint InstallHook sent = at_hooks P s asked (IsSentTo occasion) ways (inl sent) (installation asked) (λ c is. grind (arith, is))
  at_endpoint RemoveHook sent = at_hooks P s asked (IsSentTo occasion) ways (inr sent) (removal asked) (λ c is. grind (arith, is))
  at_endpoint EndOwner sent = at_owner P s asked (IsSentTo occasion) ways sent
  at_endpoint (Read document) sent = at_document P s asked (IsSentTo occasion) ways _

  -- with the endpoint that the request is sent to
  pub at_each_sent : P (outcome_of rules history occasion)
  at_each_sent =
      at_need P {A = Endpoint} (endpoint_at (path_of asked.target)) (bare 404) _ (ways (Quiet 404 Empty (other 404 302 refl) (λ active. active)) tt) (λ endpoint is.
      at_unless P (bytes_eq asked.method (method_at endpoint)) (bare 405) _ (ways (Quiet 405 Empty (other 405 302 refl) (λ active. active)) tt) (λ same.
      at_chosen P occasion.refused _ (ways (ByToken Wanting) tt) (at_endpoint endpoint (is, same))))

pub at_each : (P : Outcome → Type 0) (rules : RegistryRecord) (history : List Event) (occasion : Occasion) →
    ((way : Way (setting_on rules history occasion) occasion.arrival.asked) → P (outcome_by way)) → P (outcome_of rules history occasion)
at_each P rules history occasion ways = at_each_sent P rules history occasion (λ way _. ways way)
