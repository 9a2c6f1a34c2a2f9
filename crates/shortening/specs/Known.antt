-- What a program knows of a list of changes to shorten it.
use Rattle.std.specs.Prelude.{◌≡◌, ◌==◌, ℕ, List, [], Bool, true, false, not, Option, Some, None, is_some, if◌then◌else◌}
use Rattle.std.specs.List.{list_any, list_all}
use Rattle.std.specs.HashSet.{contains_text}
use Rattle.std.specs.Map.{lookup}
use Rattle.std.specs.Str.{bytes_eq}
use Rattle.std.specs.Global.{Vec}
use Rattle.consent.specs.Consents.{is_parties}
use Rattle.consent.specs.History.{Event, Terms, grant_at, code_terms, is_within, lives, Grant, is_unexpired}
use Rattle.consent.specs.declared.parties.Parties.{Parties}
use Rattle.shortening.specs.Hooks.{takes}
use Rattle.shortening.specs.Left.{is_superseded, any_lowers}
use Rattle.shortening.specs.declared.unexpired.Unexpired.{Unexpired}
use Rattle.shortening.specs.declared.known.Known.{Known}
use Rattle.shortening.specs.declared.behind.Behind.{Behind}

-- OF ALL THE CHANGES

-- the digest is among those noted, and the family
abbrev pub has_digest : Unexpired → List ℕ → Bool
has_digest noted digest = list_any (bytes_eq digest) noted.named.keys

abbrev pub has_family : Unexpired → ℕ → Bool
has_family noted family = list_any (λ f. family == f) noted.living.keys

-- the digest and the family of what is given, if it is unexpired
abbrev pub noted_by : ℕ → Option Grant → Option (List ℕ × ℕ)
noted_by m None = None
noted_by m (Some g) = if is_unexpired m g then Some (g.digest, g.family) else None

-- what is noted is what is unexpired of the events
pub record NotesUnexpired (noted : Unexpired) (events : List Event) (m : ℕ) : Type 0 where
  pub named : (digest : List ℕ) → has_digest noted digest ≡ is_some (grant_at events digest m)
  pub living : (family : ℕ) → has_family noted family ≡ lives events m family

-- whose the terms are
abbrev pub parties_of_terms : Terms → Parties
parties_of_terms terms = record { owner = terms.owner; client = terms.client }

-- the scopes that are listed of the two
abbrev pub items_of : Option (Vec ℕ) → List ℕ
items_of None = []
items_of (Some scopes) = scopes.items

abbrev pub scopes_of : List (Parties × Vec ℕ) → Parties → List ℕ
scopes_of listed two = items_of (lookup (is_parties two) listed)

-- it is so of the code of each family of the two that stays
abbrev pub AllOfTwo : (ℕ → Bool) → List Event → Parties → (ℕ → Bool) → Type 0
AllOfTwo family_stays events two q = (family : ℕ) (terms : Terms) → family_stays family ≡ true → code_terms events family ≡ Some terms →
    is_parties two (parties_of_terms terms) ≡ true → q terms.scope ≡ true

-- each family that stays, and of which a code is among the events, is so marked
abbrev pub IsCoded : (ℕ → Bool) → List ℕ → List Event → Type 0
IsCoded family_stays coded events = (family : ℕ) → family_stays family ≡ true → list_any (λ f. family == f) coded ≡ is_some (code_terms events family)

-- what is listed are the scopes of the codes of families that stay
pub record ListsScopes (family_stays : ℕ → Bool) (listed : List (Parties × Vec ℕ)) (events : List Event) : Type 0 where
  pub all : (two : Parties) (q : ℕ → Bool) → list_all q (scopes_of listed two) ≡ true → AllOfTwo family_stays events two q
  pub no_others : (two : Parties) (q : ℕ → Bool) → AllOfTwo family_stays events two q → list_all q (scopes_of listed two) ≡ true

-- both are so
abbrev pub ListsCodes : (ℕ → Bool) → List ℕ → List (Parties × Vec ℕ) → List Event → Type 0
ListsCodes family_stays coded listed events = IsCoded family_stays coded events × ListsScopes family_stays listed events

-- what is known is so of the history at the moment
pub record IsKnown (known : Known) (history : List Event) (m : ℕ) : Type 0 where
  pub noted : NotesUnexpired known.unexpired history m
  pub scopes : ListsScopes (lives history m) known.scopes.entries history

-- OF THE CHANGES BEHIND

-- the scope is not within what all consents behind are to, if there are any
abbrev pub is_out_of : ℕ → Option ℕ → Bool
is_out_of scope None = false
is_out_of scope (Some kept) = not (is_within scope kept)

-- what is known is so of the changes behind, where these families stay
pub record IsBehind (family_stays : ℕ → Bool) (behind : Behind) (later : List Event) : Type 0 where
  pub superseded : (two : Parties) → list_any (is_parties two) behind.superseded.keys ≡ is_superseded family_stays two.owner two.client later
  pub lowered : (terms : Terms) → any_lowers terms later ≡ is_out_of terms.scope (lookup (is_parties (parties_of_terms terms)) behind.kept.entries)
  pub gone : (name : List ℕ) → contains_text behind.gone name ≡ list_any (λ e. takes name e.change) later
