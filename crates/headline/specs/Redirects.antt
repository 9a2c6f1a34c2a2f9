-- Where user agents are sent (RFC 6749, section 3.1.2).
use Rattle.std.specs.Prelude.{◌≡◌, ◌⊎◌, ℕ, List, [], ◌∷◌, Some, Ok, true, codes, is_some}
use Rattle.headline.specs.Names.{sha256, read_params, value_sent, RegistryRecord, has_redirect, CodeGiven, Redirection, state_pair, query_of, Outcome, Parameters, KnownClient, client_named}
use Rattle.pkce.specs.Token.{token_text}
use Rattle.consent.specs.History.{Event}
use Rattle.consent.specs.Facts.{GivenCode}
use Rattle.headline.specs.Occasions.{Occasion, outcome_of}

-- the user agent is sent to a redirect URI that the request names and that its client has, with the request's own state, if it
-- has one, and with an error, or with a code that is given for just this: its text and its digest are of one draw
pub record SendsHome (rules : RegistryRecord) (occasion : Occasion) (outcome : Outcome) (there : Redirection) : Type 0 where
  pub params : Parameters
  pub query : read_params (query_of occasion.arrival.asked.target) ≡ Ok params
  pub known : KnownClient
  pub names : client_named rules params ≡ Some known
  pub registered : has_redirect there.uri known.client ≡ true
  pub asked_for : value_sent (codes "redirect_uri") params ≡ Some there.uri
  pub first : List ℕ × List ℕ
  pub pairs : there.pairs ≡ first ∷ state_pair (value_sent (codes "state") params)
  pub says : ((error : List ℕ) × (first ≡ (codes "error", error)) × (outcome.changes ≡ []))
      ⊎ ((first ≡ (codes "code", token_text occasion.arrival.draws.first)) × (family : ℕ) × (code : GivenCode)
      × (code.client ≡ known.number) × (code.redirect ≡ there.uri)
      × (outcome.changes ≡ CodeGiven family code (sha256 occasion.arrival.draws.first) ∷ []))

-- a reply that has a 302 or says where to go has both, and sends home
abbrev pub IsNoOpenRedirector : RegistryRecord → List Event → Occasion → Type 0
IsNoOpenRedirector rules history occasion =
    let outcome = outcome_of rules history occasion in
    ((outcome.reply.status ≡ 302) ⊎ (is_some outcome.reply.location ≡ true)) →
    (outcome.reply.status ≡ 302) × (there : Redirection) × (outcome.reply.location ≡ Some there) × SendsHome rules occasion outcome there
