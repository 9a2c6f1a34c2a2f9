-- The last of objects.
use Rattle.std.proofs.Common.{◌≡◌, ℕ, ◌+◌, ◌-◌, List, [], ◌∷◌, ◌++◌, length, refl, sym, ap, ◌∙◌, Option, Some, None, map, String, Global, Vec, arith}
use Rattle.std.specs.Prelude.{slice_get, option_to_list, MatchOption}
use native.Mathlib.Numerals.{unary_clauses}
use Rattle.std.specs.Option.{option_map_or}
use Rattle.std.proofs.lemmas.List.{map-append}
use Rattle.registry_warnings.specs.Warnings.{Objects, names_listed, innermost, outer}

pub outer-append : (objects : Objects) (names : List (List ℕ)) → outer (objects ++ names ∷ []) ≡ objects
outer-append [] names = refl
outer-append (first ∷ []) names = refl
outer-append (first ∷ (second ∷ objects)) names = ap (λ (rest : Objects). first ∷ rest) (outer-append (second ∷ objects) names)

pub innermost-append : (objects : Objects) (names : List (List ℕ)) → innermost (objects ++ names ∷ []) ≡ names
innermost-append [] names = refl
innermost-append (first ∷ []) names = refl
innermost-append (first ∷ (second ∷ objects)) names = innermost-append (second ∷ objects) names

-- what is popped is the innermost, and the others stay
pub popped : (old new : List (Vec (String Global) Global)) (last : Option (Vec (String Global) Global)) → old ≡ new ++ option_to_list last
    → (n m : ℕ) → length old ≡ n → MatchOption last ((n ≡ 0) × (m ≡ 0)) (λ _. m + 1 ≡ n)
    → (option_map_or names_listed last [] ≡ innermost (map names_listed old)) × (map names_listed new ≡ outer (map names_listed old))
popped [] [] None is n m count few = (refl, refl)
popped [] (x ∷ new) None is n m count few = absurd (cc is)
popped (o ∷ old) new None is n m count few = absurd (omega (arith, count, few.0))
popped old new (Some last) is n m count few =
    let mapped : map names_listed old ≡ map names_listed new ++ names_listed last ∷ [] = ap (λ (l : List (Vec (String Global) Global)). map names_listed l) is ∙ map-append names_listed new (last ∷ []) in
    (rw mapped (sym (innermost-append (map names_listed new) (names_listed last))), rw mapped (sym (outer-append (map names_listed new) (names_listed last))))

-- the innermost one is the last
pub last-innermost : (open_ones : List (Vec (String Global) Global)) (names : Vec (String Global) Global)
    → Some names ≡ slice_get open_ones (length open_ones - 1) → names_listed names ≡ innermost (map names_listed open_ones)
last-innermost [] names is = absurd (cc is)
last-innermost (o ∷ []) names is =
    let same : names ≡ o = cc is in
    ap names_listed same
last-innermost (o ∷ (p ∷ rest)) names is = last-innermost (p ∷ rest) names (is ∙ simp unary_clauses)
