-- What fits a list from a moment on, and that a change which is not refused may stand next in it.
use Rattle.std.proofs.Common.{◌≡◌, ◌≤◌, ℕ, List, [], ◌∷◌, Bool, true, false, Option, Some, None, refl, arith}
use Rattle.std.specs.Prelude.{◌==◌, find}
use Rattle.std.specs.List.{list_all}
use Rattle.std.proofs.lemmas.Bool.Decides.{nat_tests}
use Rattle.consent.specs.ListLaws.{find-passes, find-all, list_all-wider}
use Rattle.consent.specs.History.{Event, Grant, grants, grant_at, opener, all_kin, is_kin, are_kin, is_new, CanStand, IsHistory, is_taken}
use Rattle.consent.specs.Changes.{change_of, parties_of}
use Rattle.consent.specs.declared.change.Change.{Change}
use Rattle.consent.specs.declared.change.Change.TheVariants.{CodeGiven, Issued}
use Rattle.consent.specs.declared.parties.Parties.{Parties}
use Rattle.token_store.specs.Kept.{Held}
use Rattle.token_store.specs.FitsLaws.{fits_later}
use Rattle.token_store.specs.Lists.{FitsList, can_be_of, refused_by, standing_refusal}

-- it fits from each later moment on
pub list_later : (store : Held) (list : List Event) (m t : ℕ) → m ≤ t → FitsList store list m → FitsList store list t
list_later store list m t le fits =
    record { store = fits_later store list m t le fits.store; families = fits.families; ended = fits.ended; none_coming = fits.none_coming }

-- what a store fits is a history
pub list_history : (store : Held) (list : List Event) (m : ℕ) → FitsList store list m → IsHistory list m
list_history store list m fits = fits.store.kept.is_history

-- WHAT MAY STAND NEXT

-- where nothing is found all pass each test that what is not looked for passes
none_found : (p q : Grant → Bool) (gs : List Grant) → ((g : Grant) → p g ≡ false → q g ≡ true) → find p gs ≡ None → list_all q gs ≡ true
none_found p q [] out none = refl
none_found p q (g ∷ gs) out none = let more = none_found p q gs out in let here = out g in grind (arith, more, here, none)

-- a family that can be of them is of no others
pub open_kin : (list : List Event) (family : ℕ) (parties : Parties) → all_kin (grants list) ≡ true → can_be_of list family parties ≡ true →
    list_all (is_kin family parties.client parties.owner) (grants list) ≡ true
open_kin list family parties kin can = by (opener list family) refl
  where
    by : (o : Option Grant) → opener list family ≡ o → list_all (is_kin family parties.client parties.owner) (grants list) ≡ true
    by None none = none_found (λ g. g.family == family) (is_kin family parties.client parties.owner) (grants list) (λ g no. grind (arith, no)) none
    by (Some g) at =
        let its = find-passes (λ x. x.family == family) (grants list) g at in
        let whose : (g.client == parties.client) ≡ true × (g.owner == parties.owner) ≡ true = grind (arith, at, can) in
        list_all-wider (are_kin g) (is_kin family parties.client parties.owner) (grants list) (λ x alike. grind (arith, nat_tests, its, whose, alike))
        (find-all (λ x. x.family == family) (λ x. list_all (are_kin x) (grants list)) (grants list) g kin at)

-- what is not refused can be of its family, and its digest is free
pub unrefused : (list : List Event) (m : ℕ) (can_be : Bool) (digest : List ℕ) → refused_by can_be (is_taken list m (digest ∷ [])) ≡ None →
    (can_be ≡ true) × (grant_at list digest m ≡ None)
unrefused list m can_be digest none = (grind (arith, none), grind (arith, none))

pub stands : (list : List Event) (m : ℕ) (change : Change) → IsHistory list m → standing_refusal list m change ≡ None → CanStand list m (change_of change)
stands list m (CodeGiven family facts digest) is none = unrefused list m (is_new list family) digest none
stands list m (Issued home token) is none =
    let both = unrefused list m (can_be_of list home.family (parties_of home)) token.digest none in
    (open_kin list home.family (parties_of home) is.kin both.0, both.1)
stands list m change is none = tt
