-- The endpoints: their paths, their methods, and how their requests are counted.
use Rattle.std.specs.Prelude.{ℕ, List, Option, bytes_eq, codes, find}
use Rattle.answers.specs.declared.endpoint.TheConstants.{ENDPOINTS}
use Rattle.answers.specs.declared.endpoint.Endpoint.{Endpoint}
use Rattle.answers.specs.declared.endpoint.Endpoint.TheVariants.{Authorize, GiveConsent, IssueToken, RevokeToken, Introspect, InstallHook, RemoveHook, EndOwner, Read}
use Rattle.answers.specs.declared.endpoint.Document.TheVariants.{Hooks}

abbrev pub path_at : Endpoint → List ℕ
path_at Authorize = codes "/authorize"
path_at GiveConsent = codes "/consent"
path_at IssueToken = codes "/token"
path_at RevokeToken = codes "/revoke"
path_at Introspect = codes "/introspect"
path_at InstallHook = codes "/hooks"
path_at RemoveHook = codes "/hooks/remove"
path_at EndOwner = codes "/owners/end"
path_at (Read Hooks) = codes "/hooks/list"

-- the name under which its requests are counted
abbrev pub name_at : Endpoint → List ℕ
name_at Authorize = codes "authorize"
name_at GiveConsent = codes "consent"
name_at IssueToken = codes "token"
name_at RevokeToken = codes "revoke"
name_at Introspect = codes "introspect"
name_at InstallHook = codes "hooks"
name_at RemoveHook = codes "hooks_remove"
name_at EndOwner = codes "owners_end"
name_at (Read Hooks) = codes "hooks_list"

-- its place in the list of all
abbrev pub place_of : Endpoint → ℕ
place_of Authorize = 0
place_of GiveConsent = 1
place_of IssueToken = 2
place_of RevokeToken = 3
place_of Introspect = 4
place_of InstallHook = 5
place_of RemoveHook = 6
place_of EndOwner = 7
place_of (Read Hooks) = 8

abbrev pub method_at : Endpoint → List ℕ
method_at Authorize = codes "GET"
method_at (Read document) = codes "GET"
method_at _ = codes "POST"

-- the endpoint of a path, byte by byte
abbrev pub endpoint_at : List ℕ → Option Endpoint
endpoint_at path = find (λ endpoint. bytes_eq path (path_at endpoint)) ENDPOINTS
