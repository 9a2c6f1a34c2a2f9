-- POST /introspect (RFC 7662, section 2)
use Rattle.std.specs.Prelude.{◌+◌, codes}
use Rattle.endpoints.specs.Names.{value_sent, scope_text, RegistryRecord, Grant, Kind, Code, Token, InvalidRequest, Asked, Body, plain, Active, Inactive, Outcome, need, only, refuse}
use Rattle.endpoints.specs.Names.{with_authenticated, Setting, live_token}
use Rattle.clients.specs.Owners.{sub_of}
use Rattle.answers.specs.Replies.{id_of}

-- what is told of a live token
abbrev pub told_of : RegistryRecord → Grant → Kind → Body
told_of rules token Code = Inactive
told_of rules token (Token kind) =
    Active (id_of rules token.client) (token.moment + token.life) token.moment (scope_text rules.scopes token.scope) (sub_of token.owner rules) kind

-- something is told of a token
abbrev pub IsActive : Body → Type 0
IsActive (Active id expires issued scope sub kind) = Unit {0}
IsActive body = ⊥

abbrev pub introspect : Setting → Asked → Outcome
introspect setting asked =
    -- any client may ask of any token
    with_authenticated setting.rules asked (λ params known.
    -- 1. the token
    need (value_sent (codes "token") params) (refuse InvalidRequest) (λ text.
    need (live_token setting.history setting.moment text) (only (plain 200 Inactive)) (λ token.
    only (plain 200 (told_of setting.rules token token.kind)))))
