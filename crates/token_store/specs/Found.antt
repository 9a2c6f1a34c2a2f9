-- What is seen of what the store finds.
use Rattle.std.specs.Prelude.{ℕ, List, Bool, Option, find, option_map}
use Rattle.consent.specs.History.{Event, Grant, code_terms, grants, has_ended, is_live_in}
use Rattle.consent.specs.Owners.{owner_number}
use Rattle.consent.specs.Seen.{Seen, seen_as}
use Rattle.token_store.specs.declared.found.Family.{Family}
use Rattle.token_store.specs.declared.found.Found.{Found}
use Rattle.token_store.specs.Kept.{Kept}

abbrev pub found_seen : Found → Seen
found_seen found = record {
  kind = found.kind;
  family = found.family;
  client = found.client;
  owner = owner_number found.owner;
  scope = found.scope;
  moment = found.moment;
  life = found.life;
  redirect = found.redirect.now;
  challenge = found.challenge.now;
  spent = found.spent;
  ended = found.ended;
}

-- what is seen of what is kept
abbrev pub kept_seen : Kept → Seen
kept_seen k = seen_as k.spent k.ended k.grant

-- the scope of the code of its family, if there is one
abbrev pub code_scope_of : List Event → Grant → Option ℕ
code_scope_of history g = option_map (λ terms. terms.scope) (code_terms history g.family)

-- what is seen of a family: whose it is, the scope of its code, if there is one, and whether it has ended
pub record SeenFamily : Type 0 where
  pub client : ℕ
  pub owner : ℕ
  pub code_scope : Option ℕ
  pub ended : Bool

abbrev pub family_seen : Family → SeenFamily
family_seen family = record { client = family.client; owner = owner_number family.owner; code_scope = family.code_scope; ended = family.ended }

-- that of a code or token
abbrev pub family_of_grant : List Event → Grant → SeenFamily
family_of_grant history g = record { client = g.client; owner = g.owner; code_scope = code_scope_of history g; ended = has_ended history g.family }

-- the family that lives at the moment
abbrev pub family_at : List Event → ℕ → ℕ → Option SeenFamily
family_at history moment family = option_map (family_of_grant history) (find (is_live_in family moment) (grants history))
