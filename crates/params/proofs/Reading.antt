-- Names that stand twice.
use Rattle.std.proofs.Common.{◌≡◌, ◌<◌, ℕ, List, [], ◌∷◌, ◌++◌, true, false, length, refl, arith}
use Rattle.params.proofs.Names.{bytes_eq, list_any, list_any-append, any_twice, names_of_pairs, texts_of, bytes_eq-sym}
use Rattle.std.specs.declared.borrow.CowStr.{CowStr}

-- a name that stands before stands twice
pub any_twice-later : (names : List (List ℕ)) (name : List ℕ) (left : List (List ℕ)) → list_any (bytes_eq name) names ≡ true → any_twice (names ++ name ∷ left) ≡ true
any_twice-later [] name left stands = cc stands
any_twice-later (n ∷ names) name left stands =
    let any = list_any-append (bytes_eq n) names (name ∷ left) in
    let same = bytes_eq-sym n name in
    let later = any_twice-later names name left in
    grind (arith, any, same, later, stands)

-- of fewer than two names none stands twice
pub few_once : {A : Type 0} (ps : List (CowStr A × CowStr A)) → length ps < 2 → any_twice (names_of_pairs (texts_of ps)) ≡ false
few_once [] few = refl
few_once (p ∷ []) few = refl
few_once (p ∷ q ∷ ps) few = absurd (omega (arith, few))
