-- The names of the hooks, one after the other.
use Rattle.std.proofs.Common.{◌≡◌, ◌≤◌, ◌+◌, ℕ, List, [], ◌∷◌, ◌++◌, Some, None, length, Bor, map, take, take_all, refl, sym, ap, ◌∙◌, arith}
use Rattle.answers.proofs.Names.{◌*◌, All, slice_get, AreHookNames, IsHookName, plain, Texts, Told, IsSmallReply, texts_size}
use Rattle.std.specs.Prelude.{codes}
use Rattle.std.proofs.lemmas.List.{map-append}
use Rattle.std.proofs.Math.Seq.{take-suc}
use Rattle.std.proofs.lemmas.Option.{slice_get_cases, slice_get_within, get_or_from_slice_get}
use Rattle.std.proofs.lemmas.List.Elements.{All-tail}
use native.Mathlib.Numerals.{unary_clauses}

pub map_push : (items : List (Bor (List ℕ))) (name : Bor (List ℕ)) →
    map (λ name. name.now) (items ++ name ∷ []) ≡ map (λ name. name.now) items ++ name.now ∷ []
map_push items name = map-append (λ name. name.now) items (name ∷ [])

-- the names so far and the next one
pub one_more : (names now : List (List ℕ)) (n : ℕ) (name : List ℕ) → now ≡ take n names → slice_get names n ≡ Some name →
    now ++ name ∷ [] ≡ take (n + 1) names
one_more names now n name is found =
    simp unary_clauses
    (ap (λ front. front ++ name ∷ []) is
    ∙ ap (λ last. take n names ++ last ∷ []) (sym (get_or_from_slice_get names n name [] found))
    ∙ sym (take-suc names n [] (slice_get_within names n name found)))

-- there is no next one
pub all_named : (names now : List (List ℕ)) (n : ℕ) → now ≡ take n names → slice_get names n ≡ None → now ≡ names
all_named names now n is none =
    let cases = slice_get_cases names n in is ∙ take_all n names (grind (arith, cases, none))

-- names are short
names_size : (names : List (List ℕ)) → All IsHookName names → texts_size names ≤ 65 * length names
names_size [] each = omega arith
names_size (name ∷ names) each =
    let here : IsHookName name = each 0 [] (omega arith) in
    let short = here.short in
    let more = names_size names (All-tail IsHookName name names each) in
    omega (arith, short, more)

-- a host's names are few and short
pub names_small : (names : List (List ℕ)) → AreHookNames names → IsSmallReply (plain 200 (Told (Texts (codes "hooks") names ∷ [])))
names_small names are = record {
  status = refl;
  short = (let size = names_size names are.each in let few = are.few in omega (arith, size, few));
}
