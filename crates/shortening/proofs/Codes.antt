-- The scopes that are listed, change by change.
use Rattle.std.proofs.Common.{◌≡◌, ℕ, List, [], ◌∷◌, ◌++◌, Bool, true, false, cond, Option, None, Some, refl, ap, sym, ◌∙◌, arith}
use Rattle.std.specs.Prelude.{◌==◌, is_some, if◌then◌else◌}
use Rattle.std.specs.Global.{Vec}
use Rattle.std.specs.List.{list_any, list_all}
use Rattle.std.specs.Option.{option_or}
use Rattle.std.proofs.lemmas.Bool.{eq-eqb}
use Rattle.std.proofs.lemmas.Bool.Decides.{nat_tests}
use Rattle.std.proofs.lemmas.List.Folds.{list_all-append}
use Rattle.consent.specs.Consents.{is_parties}
use Rattle.consent.specs.Facts.{GivenCode}
use Rattle.consent.specs.History.{Event, Terms, event_at, code_terms}
use Rattle.consent.specs.History.Change.{CodeGiven}
use Rattle.consent.specs.GrowthLaws.{code_terms-append}
use Rattle.consent.specs.declared.change.Change.{Change}
use Rattle.consent.specs.declared.change.Change.TheVariants as given
use Rattle.consent.specs.declared.change.CodeFacts.{CodeFacts}
use Rattle.consent.specs.declared.parties.Parties.{Parties}
use Rattle.change_codec.specs.Happened.{dated}
use Rattle.shortening.specs.Known.{IsCoded, ListsCodes, ListsScopes, parties_of_terms, scopes_of}
use Rattle.shortening.specs.Left.{code_terms_of}

-- the family's code is in the list
abbrev pub is_marked : List ℕ → ℕ → Bool
is_marked coded family = list_any (λ f. family == f) coded

-- the two are those of the code
abbrev pub parties_of_code : GivenCode → Parties
parties_of_code code = record { owner = code.owner; client = code.client }

-- NOTHING TO LIST

-- where no family that stays has other terms
abbrev pub SameTerms : (ℕ → Bool) → (events after : List Event) → Type 0
SameTerms stays events after = (family : ℕ) → stays family ≡ true → code_terms after family ≡ code_terms events family

coded_same : (stays : ℕ → Bool) (coded : List ℕ) (events after : List Event) → SameTerms stays events after → IsCoded stays coded events → IsCoded stays coded after
coded_same stays coded events after same is family live = is family live ∙ ap is_some (sym (same family live))

listed_same : (stays : ℕ → Bool) (listed : List (Parties × Vec ℕ)) (events after : List Event) → SameTerms stays events after →
    ListsScopes stays listed events → ListsScopes stays listed after
listed_same stays listed events after same lists = record {
  all = λ two q all family terms live at of. lists.all two q all family terms live (sym (same family live) ∙ at) of;
  no_others = λ two q each. lists.no_others two q (λ family terms live at of. each family terms live (same family live ∙ at) of);
}

pub both_same : (stays : ℕ → Bool) (coded : List ℕ) (listed : List (Parties × Vec ℕ)) (events after : List Event) → SameTerms stays events after →
    IsCoded stays coded events → ListsScopes stays listed events → ListsCodes stays coded listed after
both_same stays coded listed events after same is lists = (coded_same stays coded events after same is, listed_same stays listed events after same lists)

-- by another test that answers the same
pub listed_alike : (s t : ℕ → Bool) (listed : List (Parties × Vec ℕ)) (events : List Event) → ((family : ℕ) → s family ≡ t family) →
    ListsScopes s listed events → ListsScopes t listed events
listed_alike s t listed events same lists = record {
  all = λ two q all family terms live at of. lists.all two q all family terms (same family ∙ live) at of;
  no_others = λ two q each. lists.no_others two q (λ family terms live at of. each family terms (sym (same family) ∙ live) at of);
}

-- what is no code tells no terms
no_terms : (m : ℕ) (change : Change) (family : ℕ) →
    ((f : ℕ) (facts : CodeFacts) (digest : List ℕ) → change ≡ given.CodeGiven f facts digest → ⊥) → code_terms (dated m change ∷ []) family ≡ None
no_terms m (given.CodeGiven f facts digest) family not = absurd (not f facts digest refl)
no_terms m _ family not = refl

pub other_same : (stays : ℕ → Bool) (events : List Event) (m : ℕ) (change : Change) →
    ((f : ℕ) (facts : CodeFacts) (digest : List ℕ) → change ≡ given.CodeGiven f facts digest → ⊥) → SameTerms stays events (events ++ dated m change ∷ [])
other_same stays events m change not family live =
    let both = code_terms-append events (dated m change ∷ []) family in
    let none = no_terms m change family not in grind (arith, both, none)

-- A CODE

module _ (events : List Event) (m f : ℕ) (code : GivenCode) (digest : List ℕ) where
  abbrev pub more : List Event
  more = events ++ event_at m (CodeGiven f code digest) ∷ []

  pushed : (family : ℕ) → code_terms more family ≡ option_or (code_terms events family) (if f == family then Some (code_terms_of code) else None)
  pushed family = let both = code_terms-append events (event_at m (CodeGiven f code digest) ∷ []) family in grind (arith, both)

  -- of a family that does not stay, or a second one
  pub dead_same : (stays : ℕ → Bool) → stays f ≡ false → SameTerms stays events more
  dead_same stays dead family live = let now = pushed family in grind (arith, nat_tests, now, dead, live)

  pub second_same : (stays : ℕ → Bool) → is_some (code_terms events f) ≡ true → SameTerms stays events more
  second_same stays there family live = let now = pushed family in grind (arith, nat_tests, now, there)

  module _ (stays : ℕ → Bool) (live : stays f ≡ true) (fresh : code_terms events f ≡ None) where
    first_terms : code_terms more f ≡ Some (code_terms_of code)
    first_terms = let now = pushed f in let same = eq-eqb f f refl in grind (arith, now, fresh, same)

    kept_terms : (family : ℕ) (terms : Terms) → code_terms events family ≡ Some terms → code_terms more family ≡ Some terms
    kept_terms family terms at = let now = pushed family in grind (arith, now, at)

    coded_first : (old new : List ℕ) → ((q : ℕ) → is_marked new q ≡ cond (f == q) true (is_marked old q)) → IsCoded stays old events → IsCoded stays new more
    coded_first old new marks is family stay =
        let now = pushed family in
        let was = is family stay in
        let mark = marks family in grind (arith, nat_tests, now, was, mark)

    listed_first : (old new : List (Parties × Vec ℕ)) →
        ((two : Parties) → scopes_of new two ≡ scopes_of old two ++ (if is_parties two (parties_of_code code) then code.scope ∷ [] else [])) →
        ListsScopes stays old events → ListsScopes stays new more
    listed_first old new lists was = record {
      all = λ two q all family terms stay at of. by two q all family terms stay at of (code_terms events family) refl;
      no_others = λ two q each. (
          let before = was.no_others two q (λ family terms stay at of. each family terms stay (kept_terms family terms at) of) in
          let here = each f (code_terms_of code) live first_terms in
          let both = list_all-append q (scopes_of old two) (if is_parties two (parties_of_code code) then code.scope ∷ [] else []) in
          let is = lists two in grind (arith, before, here, both, is)
          );
    }
      where
        by : (two : Parties) (q : ℕ → Bool) → list_all q (scopes_of new two) ≡ true → (family : ℕ) (terms : Terms) → stays family ≡ true →
            code_terms more family ≡ Some terms → is_parties two (parties_of_terms terms) ≡ true → (o : Option Terms) → code_terms events family ≡ o →
            q terms.scope ≡ true
        by two q all family terms stay at of (Some t) had =
            let now = pushed family in
            let both = list_all-append q (scopes_of old two) (if is_parties two (parties_of_code code) then code.scope ∷ [] else []) in
            let is = lists two in
            let same : t ≡ terms = grind (arith, now, at, had) in
            was.all two q (grind (arith, all, both, is)) family terms stay (had ∙ ap (λ x. Some x) same) of
        by two q all family terms stay at of None had =
            let now = pushed family in
            let both = list_all-append q (scopes_of old two) (if is_parties two (parties_of_code code) then code.scope ∷ [] else []) in
            let is = lists two in
            let same : terms ≡ code_terms_of code = grind (arith, now, at, had) in
            let two_of : is_parties two (parties_of_code code) ≡ true = ap (λ x. is_parties two (parties_of_terms x)) (sym same) ∙ of in
            let scope : q code.scope ≡ true = grind (arith, all, both, is, two_of) in ap (λ x. q x.scope) same ∙ scope

-- the first one of a family that stays
pub both_first : (events : List Event) (m f : ℕ) (code : GivenCode) (digest : List ℕ) (stays : ℕ → Bool) (old_coded new_coded : List ℕ) (old new : List (Parties × Vec ℕ)) →
    stays f ≡ true → is_marked old_coded f ≡ false →
    ((q : ℕ) → is_marked new_coded q ≡ cond (f == q) true (is_marked old_coded q)) →
    ((two : Parties) → scopes_of new two ≡ scopes_of old two ++ (if is_parties two (parties_of_code code) then code.scope ∷ [] else [])) →
    IsCoded stays old_coded events → ListsScopes stays old events →
    ListsCodes stays new_coded new (more events m f code digest)
both_first events m f code digest stays old_coded new_coded old new live unmarked marks lists is was =
    let none = is f live in
    let fresh : code_terms events f ≡ None = grind (arith, none, unmarked) in (
      coded_first events m f code digest stays live fresh old_coded new_coded marks is,
      listed_first events m f code digest stays live fresh old new lists was,
    )

-- where nothing has happened nothing is listed
pub nothing_listed : (stays : ℕ → Bool) (coded : List ℕ) (listed : List (Parties × Vec ℕ)) → coded ≡ [] → listed ≡ [] →
    ListsCodes stays coded listed []
nothing_listed stays coded listed no_codes none = (
  λ family live. ap (λ xs. is_marked xs family) no_codes,
  record {
    all = λ two q all family terms live at of. absurd (grind (arith, at));
    no_others = λ two q each. ap (λ xs. list_all q (scopes_of xs two)) none;
  },
)
