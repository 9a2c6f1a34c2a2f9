-- What is left of an owner who left.
use Rattle.std.specs.Prelude.{◌≡◌, ◌≢◌, ◌++◌, ℕ, List, true, false, Some, codes, is_some, length}
use Rattle.headline.specs.Names.{RegistryRecord, Terms, client_at, code_terms, consented_scope}
use Rattle.consent.specs.History.{Event, families_of, consents_of}
use Rattle.messages.specs.Reply.{ended_body}
use Rattle.headline.specs.Authority.{IsEndOf}
use Rattle.headline.specs.Occasions.{Occasion, history_after, reply_on}
use Rattle.headline.specs.Uses.{IsDead}

-- each family of a code of the owner for some scope is dead, whatever comes, and no client of the registry has its consent
pub record IsGone (rules : RegistryRecord) (after : List Event) (owner : ℕ) : Type 0 where
  pub families : (family : ℕ) (terms : Terms) (later : List Event) → code_terms after family ≡ Some terms → terms.owner ≡ owner → terms.scope ≢ 0 → IsDead
      (after ++ later) family
  pub consents : (client : ℕ) → is_some (client_at client rules.clients) ≡ true → consented_scope after owner client ≡ 0

-- Where the operator ends what an owner granted, all of that is gone, and told is how much there was; and so it is where memory is
-- not refused.
pub record EndsOwner (rules : RegistryRecord) (history : List Event) (occasion : Occasion) : Type 0 where
  pub gone : (owner : ℕ) → IsEndOf rules occasion owner → (reply_on rules history occasion).status ≡ 200 → IsGone rules (history_after rules history occasion) owner
  pub told : (owner : ℕ) → IsEndOf rules occasion owner → (reply_on rules history occasion).status ≡ 200 →
      (reply_on rules history occasion).body
      ≡ ended_body (families_of history owner occasion.arrival.moment) (consents_of history owner (length rules.clients))
  pub done : (owner : ℕ) → IsEndOf rules occasion owner → occasion.arrival.asked.method ≡ codes "POST" → occasion.refused ≡ false →
      (reply_on rules history occasion).status ≡ 200
