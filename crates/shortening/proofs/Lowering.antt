-- Whether a consent no longer matters, by what is known.
use Rattle.std.proofs.Common.{◌≡◌, ℕ, List, [], ◌∷◌, Bool, true, false, Option, None, Some, refl, ap, sym, ◌∙◌, arith}
use Rattle.std.specs.Prelude.{◌&&◌, ◌||◌, bit_and, not, filter}
use Rattle.std.specs.Global.{Vec}
use Rattle.std.specs.Int.Bits.{and_self}
use Rattle.std.specs.List.{list_any, list_all}
use Rattle.std.proofs.lemmas.Bool.Decides.{nat_tests}
use Rattle.std.proofs.lemmas.Nat.{and_assoc, and_comm}
use Rattle.consent.specs.Consents.{is_parties}
use Rattle.consent.specs.History.{Event, Grant, Terms, grants, is_unexpired, is_within, lives, code_terms}
use Rattle.consent.specs.History.Change.{Consented}
use Rattle.consent.specs.declared.parties.Parties.{Parties}
use Rattle.shortening.specs.FilterLaws.{same_tests}
use Rattle.shortening.specs.Known.{ListsScopes, is_out_of, parties_of_terms, scopes_of}
use Rattle.shortening.specs.Left.{any_lowers}
use Rattle.shortening.specs.Shortened.{is_lowered_later, unexpired}
use Rattle.shortening.specs.ShortenedLaws.{at_family, unexpired_lives}

-- SCOPES

within_first : (s k m : ℕ) → bit_and s (bit_and k m) ≡ s → bit_and s k ≡ s
within_first s k m is =
    ap (λ x. bit_and x k) (sym is) ∙ and_assoc k s (bit_and k m)
    ∙ ap (bit_and s) (and_comm (bit_and k m) k ∙ sym (and_assoc m k k) ∙ ap (λ x. bit_and x m) (and_self k)) ∙ is

within_whole : (s k m : ℕ) → bit_and s k ≡ s → bit_and s m ≡ s → bit_and s (bit_and k m) ≡ s
within_whole s k m first second = sym (and_assoc m s k) ∙ ap (λ x. bit_and x m) first ∙ second

-- a scope is within both masks where it is within what both have
pub within_both : (s k m : ℕ) → is_within s (bit_and k m) ≡ (is_within s k && is_within s m)
within_both s k m =
    same_tests (is_within s (bit_and k m)) (is_within s k && is_within s m)
    (λ is. (let whole : bit_and s (bit_and k m) ≡ s = grind (arith, nat_tests, is) in
    let first = within_first s k m whole in
    let second = within_first s m k (ap (bit_and s) (and_comm m k) ∙ whole) in grind (arith, nat_tests, first, second)))
    (λ is. (let first : bit_and s k ≡ s = grind (arith, nat_tests, is) in
    let second : bit_and s m ≡ s = grind (arith, nat_tests, is) in
    let whole = within_whole s k m first second in grind (arith, nat_tests, whole)))

-- and within a mask that has all of one that it is within
pub within_wider : (s k m : ℕ) → is_within s k ≡ true → is_within k m ≡ true → is_within s m ≡ true
within_wider s k m small wide =
    let first : bit_and s k ≡ s = grind (arith, nat_tests, small) in
    let second : bit_and k m ≡ k = grind (arith, nat_tests, wide) in
    let both = ap (λ x. bit_and x m) (sym first) ∙ and_assoc m s k ∙ ap (bit_and s) second ∙ first in grind (arith, nat_tests, both)

-- what lies within what is kept is within a mask that has all of that
pub none_lowered : (scopes : List ℕ) (kept mask : ℕ) → is_within kept mask ≡ true →
    list_any (λ s. not (is_within s mask) && not (is_out_of s (Some kept))) scopes ≡ false
none_lowered [] kept mask wide = refl
none_lowered (s ∷ scopes) kept mask wide =
    let more = none_lowered scopes kept mask wide in
    let here = λ (small : is_within s kept ≡ true). within_wider s kept mask small wide in grind (arith, more, here)

-- THE SAME TWO

pub same_two : (a b : Parties) → is_parties a b ≡ true → a ≡ b
same_two a b is =
    let owner : a.owner ≡ b.owner = grind (arith, nat_tests, is) in
    let client : a.client ≡ b.client = grind (arith, nat_tests, is) in
    let first : a ≡ record { owner = b.owner; client = a.client } = ap (λ o. record { owner = o; client = a.client }) owner in
    let second : record { owner = b.owner; client = a.client } ≡ b = ap (λ c. record { owner = b.owner; client = c }) client in first ∙ second

-- ALL FAMILIES

all_unexpired : (m : ℕ) (stays r : ℕ → Bool) → ((family : ℕ) → stays family ≡ true → r family ≡ true) → (gs : List Grant) →
    list_all (λ g. not (is_unexpired m g) || stays g.family) gs ≡ true → list_all (λ g. r g.family) (filter (is_unexpired m) gs) ≡ true
all_unexpired m stays r each [] all = refl
all_unexpired m stays r each (g ∷ gs) all =
    let more = all_unexpired m stays r each gs in
    let here = each g.family in grind (arith, more, here, all)

module _ (history later : List Event) (m : ℕ) (two : Parties) (mask : ℕ) where
  -- the consent lowers no terms that a later one does not
  abbrev is_let : Option Terms → Bool
  is_let o = is_lowered_later (Consented two.owner two.client mask) later o

  module _ (listed : List (Parties × Vec ℕ)) (kept : Option ℕ) (lists : ListsScopes (lives history m) listed history)
      (lowered : (terms : Terms) → is_parties two (parties_of_terms terms) ≡ true → any_lowers terms later ≡ is_out_of terms.scope kept) where
    abbrev stays_so : ℕ → Bool
    stays_so s = is_within s mask || is_out_of s kept

    let_of : (o : Option Terms) → ((terms : Terms) → o ≡ Some terms → is_parties two (parties_of_terms terms) ≡ true → stays_so terms.scope ≡ true) → is_let o ≡ true
    let_of None all = refl
    let_of (Some terms) all = let here = all terms refl in let low = lowered terms in grind (arith, here, low)

    scope_of : (terms : Terms) → is_let (Some terms) ≡ true → is_parties two (parties_of_terms terms) ≡ true → stays_so terms.scope ≡ true
    scope_of terms is of = let low = lowered terms of in grind (arith, low, is, of)

    families : list_all stays_so (scopes_of listed two) ≡ list_all (λ g. is_let (code_terms history g.family)) (unexpired history m)
    families =
        same_tests (list_all stays_so (scopes_of listed two)) (list_all (λ g. is_let (code_terms history g.family)) (unexpired history m))
        (λ all. all_unexpired m (lives history m) (λ f. is_let (code_terms history f))
        (λ family live. let_of (code_terms history family) (λ terms at of. lists.all two stays_so all family terms live at of)) (grants history) (unexpired_lives m (grants history)))
        (λ all. lists.no_others two stays_so
        (λ family terms live at of. scope_of terms (ap is_let (sym at) ∙ at_family (λ f. is_let (code_terms history f)) m family (grants history) all live) of))

    not_any : (scopes : List ℕ) → not (list_any (λ s. not (is_within s mask) && not (is_out_of s kept)) scopes) ≡ list_all stays_so scopes
    not_any [] = refl
    not_any (s ∷ scopes) = let more = not_any scopes in grind (arith, more)

    pub none_is_lowered : not (list_any (λ s. not (is_within s mask) && not (is_out_of s kept)) (scopes_of listed two))
        ≡ list_all (λ g. is_let (code_terms history g.family)) (unexpired history m)
    none_is_lowered = not_any (scopes_of listed two) ∙ families
