-- The line of a request that was answered, as tokens of JSON. Each member is there; what there is none of is null.
use Rattle.std.specs.Prelude.{ℕ, List, [], ◌∷◌, ◌++◌, ◌==◌, ◌&&◌, Bool, false, length, codes, decimal, Option, Some, None, option_map, option_and_then, if◌then◌else◌}
use Rattle.std.specs.Str.Lossy.{utf8_valid_len}
use Rattle.json.specs.Token.{Token, begin_object, end_object, begin_array, end_array, key, string, number, null}
use Rattle.answers.specs.Paths.{path_at}
use Rattle.clients.specs.Clients.{client_at}
use Rattle.clients.specs.RegistryRecord.{RegistryRecord}
use Rattle.clients.specs.declared.grant.GrantType.{GrantType}
use Rattle.clients.specs.declared.grant.GrantType.TheVariants.{AuthorizationCode, RefreshToken, ClientCredentials}
use Rattle.hook_host.specs.Verdicts.{Verdict}
use Rattle.hook_record.specs.declared.Ask.{Ask}
use Rattle.hook_record.specs.declared.Narrowed.{Narrowed}
use Rattle.hook_record.specs.declared.Narrowed.TheVariants.{Denied, EmptyScope, Allowed}
use Rattle.messages.specs.Written.{error_text}
use Rattle.params.specs.Scope.{scope_text}
use Rattle.telling.specs.declared.told.Told.{Told}

-- a member that is a text
abbrev pub text_tokens : List ℕ → Option (List ℕ) → List Token
text_tokens name None = key name ∷ null ∷ []
text_tokens name (Some text) = key name ∷ string text ∷ []

-- a member that is a number
abbrev pub number_tokens : List ℕ → Option ℕ → List Token
number_tokens name None = key name ∷ null ∷ []
number_tokens name (Some value) = key name ∷ number (decimal value) ∷ []

-- a scope, by the names of the registry
abbrev pub scope_tokens : RegistryRecord → Option ℕ → List Token
scope_tokens rules scope = text_tokens (codes "scope") (option_map (scope_text rules.scopes) scope)

-- what hooks were asked: the life and the scope that the token would have
abbrev pub ask_tokens : RegistryRecord → Option Ask → List Token
ask_tokens rules None = key (codes "asked") ∷ null ∷ []
ask_tokens rules (Some ask) =
    key (codes "asked") ∷ begin_object ∷ number_tokens (codes "life") (Some ask.life) ++ scope_tokens rules (Some ask.scope) ++ end_object ∷ []

-- so much is left of so much
abbrev pub is_left : Narrowed → ℕ → ℕ → Bool
is_left (Allowed was span) scope life = (was == scope) && (span == life)
is_left Denied scope life = false
is_left EmptyScope scope life = false

-- what a hook did that left this, behind what was left before it
abbrev pub did_name : Narrowed → Narrowed → List ℕ
did_name before (Allowed scope life) = if is_left before scope life then codes "allowed" else codes "narrowed"
did_name before Denied = codes "denied"
did_name before EmptyScope = codes "no_scope"

-- bytes, where they are a text
abbrev pub text_in : List ℕ → Option (List ℕ)
text_in bytes = if utf8_valid_len bytes == length bytes then Some bytes else None

-- what a hook left, where it allowed something
abbrev pub left_tokens : RegistryRecord → Narrowed → List Token
left_tokens rules (Allowed scope life) = number_tokens (codes "life") (Some life) ++ scope_tokens rules (Some scope)
left_tokens rules Denied = []
left_tokens rules EmptyScope = []

-- a hook, behind what was left before it
abbrev pub verdict_tokens : RegistryRecord → Narrowed → Verdict → List Token
verdict_tokens rules before verdict =
    begin_object ∷ text_tokens (codes "did") (Some (did_name before verdict.left))
    ++ text_tokens (codes "hook") (text_in verdict.name)
    ++ left_tokens rules verdict.left ++ end_object ∷ []

-- hooks in their turn, each behind what the one before it left
abbrev pub verdicts_tokens : RegistryRecord → Narrowed → List Verdict → List Token
verdicts_tokens rules before [] = []
verdicts_tokens rules before (verdict ∷ later) = verdict_tokens rules before verdict ++ verdicts_tokens rules verdict.left later

-- what is left before the first hook: all that it is asked for
abbrev pub left_before : Option Ask → Narrowed
left_before None = EmptyScope
left_before (Some ask) = Allowed ask.scope ask.life

abbrev pub hooks_tokens : RegistryRecord → Option Ask → List Verdict → List Token
hooks_tokens rules ask verdicts =
    key (codes "hooks") ∷ begin_array ∷ verdicts_tokens rules (left_before ask) verdicts ++ end_array ∷ []

-- the identifier of a client
abbrev pub client_id : RegistryRecord → Option ℕ → Option (List ℕ)
client_id rules client = option_map (λ known. known.id) (option_and_then (λ client. client_at client rules.clients) client)

abbrev pub grant_name : GrantType → List ℕ
grant_name AuthorizationCode = codes "authorization_code"
grant_name RefreshToken = codes "refresh_token"
grant_name ClientCredentials = codes "client_credentials"

-- who asked, and what came of it
abbrev pub answered_tokens : RegistryRecord → Told → List Token
answered_tokens rules told =
    text_tokens (codes "client") (client_id rules told.client)
    ++ text_tokens (codes "error") (option_map error_text told.error)
    ++ number_tokens (codes "family") told.family
    ++ text_tokens (codes "grant") (option_map grant_name told.grant)

-- what was given to whom, when and at which path (a path that no endpoint has is a text of the request, and is not told), and the status
-- of the reply
abbrev pub given_tokens : RegistryRecord → Told → List Token
given_tokens rules told =
    number_tokens (codes "life") told.life
    ++ number_tokens (codes "moment") (Some told.moment)
    ++ number_tokens (codes "owner") told.owner
    ++ text_tokens (codes "path") (option_map path_at told.endpoint)
    ++ scope_tokens rules told.scope
    ++ number_tokens (codes "status") (Some told.status)

-- the whole line, its members in the order of their names
abbrev pub told_tokens : RegistryRecord → Told → List Token
told_tokens rules told =
    begin_object ∷ ask_tokens rules told.ask
    ++ answered_tokens rules told
    ++ hooks_tokens rules told.ask told.verdicts
    ++ given_tokens rules told
    ++ end_object ∷ []
