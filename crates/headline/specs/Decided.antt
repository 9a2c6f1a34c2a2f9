-- What hooks decided before tokens are given.
use Rattle.std.specs.Prelude.{◌≡◌, ◌⊎◌, ℕ, List, [], ◌∷◌, All, Contains, Some, codes, option_and_then}
use Rattle.headline.specs.Names.{value_sent, RegistryRecord, client_at, Change, Grant, grants, Issued, Token, TokenKind, Access, Refresh, Ask, Allowed, Checked, narrowed_by, narrowed_by_hook}
use Rattle.headline.specs.Names.{Parameters, KnownClient, digest_told}
use Rattle.consent.specs.History.{Event, next_family}
use Rattle.hook_record.specs.Narrowing.{met}
use Rattle.hook_record.specs.declared.Kind.TheVariants as kind
use Rattle.messages.specs.Asked.{Asked}
use Rattle.answers.specs.Requesters.{scope_within}
use Rattle.answers.specs.Setting.{Setting}
use Rattle.answers.specs.Tokens.{code_of_client, refresh_of_client}
use Rattle.token_endpoint.specs.ClientCredentials.{own_ask}
use Rattle.token_endpoint.specs.Grants.{ask_for}
use Rattle.headline.specs.Bearers.{BearsWith}
use Rattle.headline.specs.Occasions.{Occasion, outcome_of, setting_on}
use Rattle.headline.specs.Uses.{PresentsAs}

-- WHAT IS ASKED

-- The form presents a code of the client, of the family: hooks are asked for a grant by a code, by the code's owner and of all
-- its scope.
abbrev pub IsCodeAsk : Setting → Parameters → KnownClient → ℕ → Ask → Type 0
IsCodeAsk setting params known family ask =
    (text : List ℕ) × PresentsAs (codes "authorization_code") (codes "code") params text
    × (code : Grant) × (option_and_then (code_of_client setting.history setting.moment known.number) (digest_told text) ≡ Some code)
    × (code.family ≡ family) × (ask ≡ ask_for setting known kind.Code code.owner code.scope)

-- The form presents a refresh token of the client, of the family: they are asked for a refresh, by the token's owner and of the
-- scope that the form asks for within the token's.
abbrev pub IsRefreshAsk : Setting → Parameters → KnownClient → ℕ → Ask → Type 0
IsRefreshAsk setting params known family ask =
    (text : List ℕ) × PresentsAs (codes "refresh_token") (codes "refresh_token") params text
    × (token : Grant) × (option_and_then (refresh_of_client setting.history setting.moment known.number) (digest_told text) ≡ Some token)
    × (scope : ℕ) × (scope_within setting.rules token.scope params ≡ Some scope)
    × (token.family ≡ family) × (ask ≡ ask_for setting known kind.Refresh token.owner scope)

-- The form asks for a grant to the client itself, in a new family: they are asked for that, of the scope that it asks for within
-- what the client may have.
abbrev pub IsOwnAsk : Setting → Parameters → KnownClient → ℕ → Ask → Type 0
IsOwnAsk setting params known family ask =
    (value_sent (codes "grant_type") params ≡ Some (codes "client_credentials"))
    × (scope : ℕ) × (scope_within setting.rules known.client.allowed params ≡ Some scope)
    × (next_family setting.history ≡ Some family) × (ask ≡ own_ask setting known scope)

-- just this is asked of the hooks, for tokens of the family: it is for the client whose credentials the request bears, and for
-- the grant of the type that its form names
pub record IsAskOf (setting : Setting) (asked : Asked) (family : ℕ) (ask : Ask) : Type 0 where
  pub params : Parameters
  pub known : KnownClient
  pub bears : BearsWith setting.rules asked params known.number
  pub registered : client_at known.number setting.rules.clients ≡ Some known.client
  pub is : IsCodeAsk setting params known family ask ⊎ (IsRefreshAsk setting params known family ask ⊎ IsOwnAsk setting params known family ask)

-- WHAT IS DECIDED

-- each hook, in its turn, was asked for what the one before left, and none denied it: this scope and this life are left
abbrev pub AllowInTurn : List Checked → Ask → ℕ → ℕ → Type 0
AllowInTurn [] ask scope life = (scope ≡ ask.scope) × (life ≡ ask.life)
AllowInTurn (hook ∷ hooks) ask scope life =
    (some most : ℕ) × (narrowed_by_hook ask hook ≡ Allowed some most) × AllowInTurn hooks (record ask { scope = some; life = most }) scope life

-- an access token has what is left; a refresh token has that scope, or the scope of one of its family, which it replaces
abbrev pub IsOfLeft : List Event → ℕ → TokenKind → ℕ → ℕ → ℕ → ℕ → Type 0
IsOfLeft history family Access scope life left most = (scope ≡ left) × (life ≡ most)
IsOfLeft history family Refresh scope life left most =
    (scope ≡ left) ⊎ ((g : Grant) × Contains (grants history) g × (g.kind ≡ Token Refresh) × (g.family ≡ family) × (g.scope ≡ scope))

-- the token is of the client and the owner of what was asked of the hooks for its family, and is given by what they left of it
abbrev pub IsDecided : List Checked → Setting → Asked → Change → Type 0
IsDecided hooks setting asked (Issued family parties token) =
    (ask : Ask) × IsAskOf setting asked family ask × (ask.client ≡ parties.client) × (ask.owner ≡ parties.owner)
    × (some most left span : ℕ) × AllowInTurn hooks ask some most × (met ask some most ≡ Allowed left span)
    × IsOfLeft setting.history family token.kind token.scope token.life left span
IsDecided hooks setting asked change = Unit {0}

-- so it is of each token that is given where the host is these hooks
abbrev pub IsAllDecided : RegistryRecord → List Event → Occasion → Type 0
IsAllDecided rules history occasion =
    (hooks : List Checked) → ((ask : Ask) → occasion.host.answer ask ≡ narrowed_by hooks ask) →
    All (IsDecided hooks (setting_on rules history occasion) occasion.arrival.asked) (outcome_of rules history occasion).changes
