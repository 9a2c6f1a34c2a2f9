-- What look-ups, tests and counts say of a list that is filtered, and of a later moment, and when two tests are the same.
use Rattle.std.proofs.Common.{◌≡◌, ◌≤◌, ℕ, List, [], ◌∷◌, None, Bool, true, false, refl, sym, arith}
use Rattle.std.specs.Prelude.{find, filter, count_by}
use Rattle.std.specs.List.{list_any}
use Rattle.std.specs.Str.{bytes_eq}
use Rattle.std.proofs.lemmas.Bool.Decides.{nat_tests}
use Rattle.std.proofs.lemmas.Slice.Eq.{bytes_eq-Decides}
use Rattle.consent.specs.ListLaws.{count_by-cons, any-wider}
use Rattle.consent.specs.History.{Event, grants, is_live_in, lives}

-- look-ups, tests and counts of what passes a wider test
pub find-filter : {X : Type 0} (p q : X → Bool) (xs : List X) → ((x : X) → q x ≡ true → p x ≡ true) → find q (filter p xs) ≡ find q xs
find-filter p q [] wide = refl
find-filter p q (x ∷ xs) wide = let more = find-filter p q xs wide in let here = wide x in grind (arith, more, here)

pub any-filter : {X : Type 0} (p q : X → Bool) (xs : List X) → ((x : X) → q x ≡ true → p x ≡ true) → list_any q (filter p xs) ≡ list_any q xs
any-filter p q [] wide = refl
any-filter p q (x ∷ xs) wide = let more = any-filter p q xs wide in let here = wide x in grind (arith, more, here)

pub filter-filter : {X : Type 0} (p q : X → Bool) (xs : List X) → ((x : X) → q x ≡ true → p x ≡ true) → filter q (filter p xs) ≡ filter q xs
filter-filter p q [] wide = refl
filter-filter p q (x ∷ xs) wide = let more = filter-filter p q xs wide in let here = wide x in grind (arith, more, here)

pub count-filter : {X : Type 0} (p q : X → Bool) (xs : List X) → ((x : X) → q x ≡ true → p x ≡ true) → count_by q (filter p xs) ≡ count_by q xs
count-filter p q [] wide = refl
count-filter p q (x ∷ xs) wide =
    let more = count-filter p q xs wide in let here = wide x in
    let a = count_by-cons q x xs in let b = count_by-cons q x (filter p xs) in grind (arith, more, here, a, b)

-- a narrower test finds nothing where the wider one finds nothing
pub find-narrower_none : {X : Type 0} (p q : X → Bool) (xs : List X) → ((x : X) → q x ≡ true → p x ≡ true) → find p xs ≡ None → find q xs ≡ None
find-narrower_none p q [] wide none = refl
find-narrower_none p q (x ∷ xs) wide none = let more = find-narrower_none p q xs wide in let here = wide x in grind (arith, more, here, none)

-- a family that lives later lives now
pub lives-before : (history : List Event) (m t family : ℕ) → m ≤ t → lives history t family ≡ true → lives history m family ≡ true
lives-before history m t family le live =
    any-wider (is_live_in family m) (is_live_in family t) (grants history) (λ g is. grind (arith, nat_tests, le, is)) live

-- TESTS

pub same_tests : (x y : Bool) → (x ≡ true → y ≡ true) → (y ≡ true → x ≡ true) → x ≡ y
same_tests true true there back = refl
same_tests true false there back = sym (there refl)
same_tests false true there back = back refl
same_tests false false there back = refl

pub bytes_eq_sym : (a b : List ℕ) → bytes_eq a b ≡ bytes_eq b a
bytes_eq_sym a b =
    same_tests (bytes_eq a b) (bytes_eq b a) (λ is. (bytes_eq-Decides b a).1 (sym ((bytes_eq-Decides a b).0 is)))
    (λ is. (bytes_eq-Decides a b).1 (sym ((bytes_eq-Decides b a).0 is)))
