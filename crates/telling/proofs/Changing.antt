-- What the changes of one request tell.
use Rattle.std.proofs.Common.{◌≡◌, ℕ, zero, suc, List, [], ◌∷◌, map, Option, Some, None, refl, ap, sym, ◌∙◌, arith}
use Rattle.std.specs.List.{range_with_len}
use Rattle.std.specs.Option.{option_or}
use Rattle.consent.specs.Changes.{as_list, change_of, changes_of, rest_of_use}
use Rattle.consent.specs.History.{Change}
use Rattle.consent.specs.History.Change.{Consented}
use Rattle.consent.specs.Owners.{owner_number, owner_numbered}
use Rattle.consent.specs.declared.change.Change.TheVariants as given
use Rattle.consent.specs.declared.change.Changes.TheVariants.{Used, Left}
use Rattle.consent.specs.declared.change.Home.{Home}
use Rattle.consent.specs.declared.change.NewToken.{NewToken}
use Rattle.telling.specs.Changed.{one_changed}
use Rattle.telling.specs.Telling.{family_in, first_told, life_in, owner_in, scope_in, what_changed}
use Rattle.telling.specs.declared.changed.Changed.{Changed}

or_none : (o : Option ℕ) → o ≡ option_or o None
or_none None = refl
or_none (Some n) = refl

abbrev changed_so : Option ℕ → Option ℕ → Option ℕ → Option ℕ → Changed
changed_so family owner scope life = record { family = family; owner = owner; scope = scope; life = life }

-- one change alone
pub alone : (change : Change) → one_changed change ≡ what_changed (change ∷ [])
alone change =
    let family = option_or (family_in change) None in
    let owner = option_or (owner_in change) None in
    let scope = option_or (scope_in change) None in
    ap (λ f. changed_so f (owner_in change) (scope_in change) (life_in change)) (or_none (family_in change))
    ∙ ap (λ o. changed_so family o (scope_in change) (life_in change)) (or_none (owner_in change))
    ∙ ap (λ s. changed_so family owner s (life_in change)) (or_none (scope_in change))
    ∙ ap (λ l. changed_so family owner scope l) (or_none (life_in change))

-- what follows the access token is of the same owner
same_owner : (of : List ℕ) (home : Home) (refresh : Option NewToken) →
    owner_numbered (owner_number home.owner) ≡ option_or (owner_numbered (owner_number home.owner)) (first_told owner_in (changes_of (rest_of_use of home refresh)))
same_owner of home refresh = by (owner_numbered (owner_number home.owner)) refl refresh
  where
    by : (o : Option ℕ) → owner_numbered (owner_number home.owner) ≡ o → (refresh : Option NewToken) → o ≡ option_or o (first_told owner_in (changes_of (rest_of_use of home refresh)))
    by (Some owner) is refresh = refl
    by None is None = refl
    by None is (Some token) = ap (λ (o : Option ℕ). option_or o None) (sym is)

abbrev with_owner : ℕ → Option ℕ → ℕ → ℕ → Changed
with_owner family owner scope life = record { family = Some family; owner = owner; scope = Some scope; life = Some life }

-- the access token tells of the whole use
pub used_changed : (of : List ℕ) (home : Home) (access : NewToken) (refresh : Option NewToken) →
    one_changed (change_of (given.Issued home access)) ≡ what_changed (changes_of (as_list (Used of home access refresh)))
used_changed of home access refresh = ap (λ owner. with_owner home.family owner access.scope access.life) (same_owner of home refresh)

-- a withdrawal tells of neither a family nor a life
none_told : (tells : Change → Option ℕ) (owner : ℕ) → ((client : ℕ) → tells (Consented owner client 0) ≡ None) → (clients : List ℕ) →
    first_told tells (changes_of (map (λ client. given.Consented owner client 0) clients)) ≡ None
none_told tells owner each [] = refl
none_told tells owner each (client ∷ clients) =
    ap (λ o. option_or o (first_told tells (changes_of (map (λ client. given.Consented owner client 0) clients)))) (each client) ∙ none_told tells owner each clients

abbrev without : Option ℕ → ℕ → Option ℕ → Changed
without family owner life = record { family = family; owner = Some owner; scope = Some 0; life = life }

-- those of an owner who leaves tell of the owner
pub left_changed : (owner clients : ℕ) → (clients ≡ 0 → ⊥) → without None owner None ≡ what_changed (changes_of (as_list (Left owner clients)))
left_changed owner zero some = absurd (some refl)
left_changed owner (suc n) some =
    ap (λ family. without family owner None) (sym (none_told family_in owner (λ client. refl) (range_with_len 2 n)))
    ∙ ap (λ life. without (first_told family_in (changes_of (map (λ client. given.Consented owner client 0) (range_with_len 2 n)))) owner life) (sym (none_told life_in owner (λ client. refl) (range_with_len 2 n)))
