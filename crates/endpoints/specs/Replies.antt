-- The reply to any request and what happens with it.
use Rattle.std.specs.Prelude.{Bool, not, bytes_eq, Option, option_and_then}
use Rattle.endpoints.specs.Names.{Asked, path_of, Outcome, point, need, bare, chosen, Setting, situation_of, Endpoint}
use Rattle.consent.specs.History.{Change}
use Rattle.answers.specs.declared.endpoint.Endpoint.TheVariants.{Authorize, GiveConsent, IssueToken, RevokeToken, Introspect, InstallHook, RemoveHook, EndOwner, Read}
use Rattle.answers.specs.Paths.{endpoint_at, method_at}
use Rattle.endpoints.specs.Authorize.{authorize}
use Rattle.endpoints.specs.ConsentPath.{give_consent}
use Rattle.token_endpoint.specs.TokenPath.{issue_token}
use Rattle.endpoints.specs.Revoke.{revoke_token}
use Rattle.endpoints.specs.Introspect.{introspect}
use Rattle.endpoints.specs.HookPaths.{install_hook, remove_hook, hook_change_at}
use Rattle.endpoints.specs.OwnerPath.{end_owner}
use Rattle.endpoints.specs.Documents.{document_at, document_outcome}

abbrev pub outcome_at : Endpoint → Setting → Asked → Outcome
outcome_at Authorize setting asked = authorize setting asked
outcome_at GiveConsent setting asked = give_consent setting asked
outcome_at IssueToken setting asked = issue_token setting asked
outcome_at RevokeToken setting asked = revoke_token setting asked
outcome_at Introspect setting asked = introspect setting asked
outcome_at InstallHook setting asked = install_hook setting asked
outcome_at RemoveHook setting asked = remove_hook setting asked
outcome_at EndOwner setting asked = end_owner setting asked
outcome_at (Read document) setting asked = document_outcome (document_at document (situation_of setting) asked)

-- No such path, another method, and then the endpoint's own points, or 503 where memory was refused for what they want.
-- The first two want none.
abbrev pub request_outcome : Bool → Setting → Asked → Outcome
request_outcome refused setting asked =
    need (endpoint_at (path_of asked.target)) (bare 404) (λ endpoint.
    point (not (bytes_eq asked.method (method_at endpoint))) (bare 405)
    (chosen refused (outcome_at endpoint setting asked)))

-- the change of the hooks that the request asks for, if it asks for one
abbrev pub hook_change : Asked → Option Change
hook_change asked = option_and_then (λ endpoint. hook_change_at endpoint asked) (endpoint_at (path_of asked.target))
