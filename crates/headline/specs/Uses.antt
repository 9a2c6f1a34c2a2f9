-- What is done with codes and tokens, by requests and their replies.
use Rattle.std.specs.Prelude.{◌≡◌, ◌≢◌, ◌⊎◌, ◌++◌, ℕ, List, true, codes, Some}
use Rattle.headline.specs.Names.{list_any, value_sent, RegistryRecord, Grant, grant_at, grants, is_code, is_spent, live_grant, Failure, Parameters, form_of, digest_told}
use Rattle.std.specs.Str.{bytes_eq}
use Rattle.consent.specs.History.{Event}
use Rattle.messages.specs.declared.error.ErrorName.TheVariants.{InvalidGrant}
use Rattle.answers.specs.Tokens.{is_refresh, live_token}
use Rattle.headline.specs.Bearers.{BearsWith}
use Rattle.headline.specs.Occasions.{Occasion, GoesTo, history_after, reply_on}

-- the parameters present the text under this name, for tokens of this grant type
abbrev pub PresentsAs : List ℕ → List ℕ → Parameters → List ℕ → Type 0
PresentsAs grant_type name params text = (value_sent (codes "grant_type") params ≡ Some grant_type) × (value_sent name params ≡ Some text)

-- they present it as a code or as a refresh token
abbrev pub Presents : Parameters → List ℕ → Type 0
Presents params text =
    PresentsAs (codes "authorization_code") (codes "code") params text ⊎ PresentsAs (codes "refresh_token") (codes "refresh_token") params text

-- the code or refresh token of the text is exchanged for tokens
pub record Exchanges (rules : RegistryRecord) (history : List Event) (occasion : Occasion) (text : List ℕ) : Type 0 where
  pub goes_to : GoesTo occasion (codes "/token")
  pub params : Parameters
  pub form : form_of occasion.arrival.asked ≡ Some params
  pub presents : Presents params text
  pub granted : (reply_on rules history occasion).status ≡ 200

-- a code or token of the text is given among the events
pub record IsGivenAmong (events : List Event) (text : List ℕ) : Type 0 where
  pub digest : List ℕ
  pub told : digest_told text ≡ Some digest
  pub given : list_any (λ g. bytes_eq digest g.digest) (grants events) ≡ true

-- the live token is revoked
pub record Revokes (rules : RegistryRecord) (history : List Event) (occasion : Occasion) (token : Grant) : Type 0 where
  pub goes_to : GoesTo occasion (codes "/revoke")
  pub params : Parameters
  pub form : form_of occasion.arrival.asked ≡ Some params
  pub text : List ℕ
  pub presents : value_sent (codes "token") params ≡ Some text
  pub live : live_token history occasion.arrival.moment text ≡ Some token
  pub done : (reply_on rules history occasion).status ≡ 200

-- a used, unexpired code or refresh token is presented again by its client, as what it is, and answered invalid_grant
pub record Replays (rules : RegistryRecord) (history : List Event) (occasion : Occasion) (text : List ℕ) (grant : Grant) : Type 0 where
  pub goes_to : GoesTo occasion (codes "/token")
  pub params : Parameters
  pub bears : BearsWith rules occasion.arrival.asked params grant.client
  pub presents : (PresentsAs (codes "authorization_code") (codes "code") params text × (is_code grant.kind ≡ true))
      ⊎ (PresentsAs (codes "refresh_token") (codes "refresh_token") params text × (is_refresh grant.kind ≡ true))
  pub told : digest_told text ≡ Some grant.digest
  pub unexpired : grant_at history grant.digest occasion.arrival.moment ≡ Some grant
  pub used : is_spent history grant.digest occasion.arrival.moment ≡ true
  pub denied : (reply_on rules history occasion).body ≡ Failure InvalidGrant

-- after this history the text is exchanged only where a code or token of it was given since
abbrev pub IsUsedUp : RegistryRecord → List Event → List ℕ → Type 0
IsUsedUp rules history text =
    (between : List Event) (occasion : Occasion) → Exchanges rules (history ++ between) occasion text → IsGivenAmong between text

-- no code and no token of the family is live, at any moment
abbrev pub IsDead : List Event → ℕ → Type 0
IsDead history family =
    (digest : List ℕ) (moment : ℕ) (grant : Grant) → live_grant history digest moment ≡ Some grant → grant.family ≢ family

-- each text that is exchanged is used up
abbrev pub UsesUp : RegistryRecord → List Event → Occasion → Type 0
UsesUp rules history occasion = (text : List ℕ) → Exchanges rules history occasion text → IsUsedUp rules (history_after rules history occasion) text

-- the family of each token that is revoked is dead, whatever comes
abbrev pub RevokesForGood : RegistryRecord → List Event → Occasion → Type 0
RevokesForGood rules history occasion =
    (token : Grant) (later : List Event) → Revokes rules history occasion token →
    IsDead (history_after rules history occasion ++ later) token.family

-- the family of each code and refresh token that is replayed is dead, whatever comes
abbrev pub ReplaysKill : RegistryRecord → List Event → Occasion → Type 0
ReplaysKill rules history occasion =
    (text : List ℕ) (grant : Grant) (later : List Event) → Replays rules history occasion text grant →
    IsDead (history_after rules history occasion ++ later) grant.family
