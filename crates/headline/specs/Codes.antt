-- What codes are bound to (RFC 6749, section 4.1.3; RFC 7636, section 4.6).
use Rattle.std.specs.Prelude.{◌≡◌, ℕ, List, true, codes, Some}
use Rattle.headline.specs.Names.{value_sent, RegistryRecord, Grant, grant_at, is_code, Parameters, form_of, digest_told}
use Rattle.pkce.specs.Proof.{challenge_of}
use Rattle.consent.specs.History.{Event}
use Rattle.headline.specs.Bearers.{BearsWith}
use Rattle.headline.specs.Occasions.{Occasion, GoesTo, reply_on}

-- the code, which is in the history and not expired, was given to the client whose credentials come with it, for the
-- redirect URI that is sent with it, and under the challenge of the verifier that is
pub record IsBound (rules : RegistryRecord) (history : List Event) (occasion : Occasion) (params : Parameters) : Type 0 where
  pub text : List ℕ
  pub sent : value_sent (codes "code") params ≡ Some text
  pub code : Grant
  pub told : digest_told text ≡ Some code.digest
  pub is_code : is_code code.kind ≡ true
  pub given : grant_at history code.digest occasion.arrival.moment ≡ Some code
  pub bears : BearsWith rules occasion.arrival.asked params code.client
  pub led : value_sent (codes "redirect_uri") params ≡ Some code.redirect
  pub verifier : List ℕ
  pub verified : value_sent (codes "code_verifier") params ≡ Some verifier
  pub proven : code.challenge ≡ challenge_of verifier

-- so is each code that is exchanged for tokens
abbrev pub BindsCodes : RegistryRecord → List Event → Occasion → Type 0
BindsCodes rules history occasion =
    (params : Parameters) → GoesTo occasion (codes "/token") → form_of occasion.arrival.asked ≡ Some params →
    value_sent (codes "grant_type") params ≡ Some (codes "authorization_code") → (reply_on rules history occasion).status ≡ 200 →
    IsBound rules history occasion params
