-- What is told of live tokens (RFC 7662, section 2.2).
use Rattle.std.specs.Prelude.{◌≡◌, ◌≤◌, ◌<◌, ◌+◌, ℕ, List, true, false, Some, codes, option_map}
use Rattle.headline.specs.Names.{value_sent, scope_text, RegistryRecord, client_at, sub_of, Grant, grant_at, has_ended, is_code, is_single_use, is_spent, Token, TokenKind, Body, Active, Parameters}
use Rattle.headline.specs.Names.{digest_told, token_life_limit}
use Rattle.consent.specs.History.{Event}
use Rattle.endpoints.specs.Introspect.{IsActive}
use Rattle.headline.specs.Bearers.{BearsWith}
use Rattle.headline.specs.Grants.{KeepsScope}
use Rattle.headline.specs.Occasions.{Occasion, GoesTo, reply_on}

-- the text is that of this token of the history, which at the moment is neither ended nor used nor expired
pub record IsLive (history : List Event) (text : List ℕ) (moment : ℕ) (token : Grant) : Type 0 where
  pub told : digest_told text ≡ Some token.digest
  pub named : grant_at history token.digest moment ≡ Some token
  pub no_code : is_code token.kind ≡ false
  pub alive : has_ended history token.family ≡ false
  pub unused : is_single_use token.kind ≡ true → is_spent history token.digest moment ≡ false
  pub lasts : (token.moment ≤ moment) × (moment < token.moment + token.life)

-- a client, by its credentials, presents the text as a token
abbrev pub Shows : RegistryRecord → Occasion → List ℕ → Type 0
Shows rules occasion text = (params : Parameters) × (value_sent (codes "token") params ≡ Some text) × (client : ℕ) × BearsWith rules occasion.arrival.asked params client

-- the body tells of this token: its client, its times, its scope and its owner
abbrev pub TellsOf : RegistryRecord → Grant → Body → Type 0
TellsOf rules token (Active id expires issued scope sub kind) =
    (token.kind ≡ Token kind) × (option_map (λ c. c.id) (client_at token.client rules.clients) ≡ Some id)
    × (issued ≡ token.moment) × (expires ≡ token.moment + token.life) × (scope ≡ scope_text rules.scopes token.scope) × (sub ≡ sub_of token.owner rules)
TellsOf rules token body = ⊥

-- the reply tells of the live token that the request presents
pub record TellsLive (rules : RegistryRecord) (history : List Event) (occasion : Occasion) : Type 0 where
  pub text : List ℕ
  pub shown : Shows rules occasion text
  pub token : Grant
  pub live : IsLive history text occasion.arrival.moment token
  pub tells : TellsOf rules token (reply_on rules history occasion).body

-- where it tells of an active token, it does so, and the token keeps to its bounds
abbrev pub TellsWithin : RegistryRecord → List Event → Occasion → Type 0
TellsWithin rules history occasion =
    IsActive (reply_on rules history occasion).body →
    (it : TellsLive rules history occasion) × KeepsScope rules history it.token
    × ((kind : TokenKind) → it.token.kind ≡ Token kind → it.token.life ≤ token_life_limit rules kind)

-- Where a reply tells of an active token, it is the live token that was presented; and where a client presents a live token
-- at POST /introspect, the reply tells of it, unless memory is refused.
pub record IsActiveWhereLive (rules : RegistryRecord) (history : List Event) (occasion : Occasion) : Type 0 where
  pub only_live : IsActive (reply_on rules history occasion).body → TellsLive rules history occasion
  pub each_live : (text : List ℕ) (token : Grant) → GoesTo occasion (codes "/introspect") → occasion.arrival.asked.method ≡ codes "POST" →
      occasion.refused ≡ false → Shows rules occasion text → IsLive history text occasion.arrival.moment token →
      TellsOf rules token (reply_on rules history occasion).body
