-- Owners that are noted by their numbers, and their keys.
use Rattle.std.proofs.Common.{◌≡◌, ◌≤◌, ◌-◌, ◌∷◌, ◌++◌, ◌∙◌, ℕ, List, [], Some, false, cond, length, get_or, take, drop, map, sym, ap, subst, arith}
use Rattle.std.proofs.lemmas.List.{take_all}
use Rattle.std.proofs.lemmas.Bool.Decides.{nat_tests}
use Rattle.std.proofs.lemmas.List.Folds.{find-append, list_any-append}
use Rattle.std.proofs.lemmas.Slice.Eq.{bytes_eq-Decides}
use Rattle.change_codec.specs.Rules.{OwnerFact}
use Rattle.clients.specs.declared.bounds.OwnerBounds.{OwnerBounds}
use Rattle.rules_codec.specs.Facts.{owner_fact}
use Rattle.std.specs.Prelude.{◌==◌, bytes_eq, find}
use Rattle.rules_beside.specs.Owners.{has_moved}
use Rattle.rules_beside.specs.OwnersParts.{AddsKey, AreKeys, AreNumbers, NotesOwner}

bytes_eq_sym : (a b : List ℕ) → bytes_eq a b ≡ bytes_eq b a
bytes_eq_sym a b = grind (arith, bytes_eq-Decides)

pub numbers_more : (owners : List OwnerFact) (o : OwnerBounds) (old new : List (ℕ × OwnerBounds)) → AreNumbers old owners → NotesOwner o old new →
    AreNumbers new (owners ++ owner_fact o ∷ [])
numbers_more owners o old new are notes number =
    let both = find-append (λ (x : OwnerFact). number == x.number) owners (owner_fact o ∷ []) in
    let was = are number in
    let now = notes number in grind (arith, nat_tests, both, was, now)

pub keys_more : (owners : List OwnerFact) (o : OwnerBounds) (old new : List (List ℕ)) → AreKeys old owners → AddsKey o.key old new →
    AreKeys new (owners ++ owner_fact o ∷ [])
keys_more owners o old new are adds key =
    let both = list_any-append (λ (x : OwnerFact). bytes_eq key x.key) owners (owner_fact o ∷ []) in
    let was = are key in
    let now = adds key in
    let same = bytes_eq_sym o.key key in grind (arith, both, was, now, same)

-- the first one has not moved
pub moves_on : (owners : List OwnerFact) (rest : List OwnerBounds) (was d : OwnerBounds) → 1 ≤ length rest → was ≡ get_or rest 0 d →
    has_moved owners (owner_fact was) ≡ false →
    find (has_moved owners) (map owner_fact rest) ≡ find (has_moved owners) (map owner_fact (take (length rest - 1) (drop 1 rest)))
moves_on owners [] was d some at stays = absurd (omega (arith, some))
moves_on owners (x ∷ xs) was d some at stays =
    let here : has_moved owners (owner_fact x) ≡ false = subst (λ (o : OwnerBounds). has_moved owners (owner_fact o) ≡ false) at stays in
    let all : take (length (x ∷ xs) - 1) xs ≡ xs = take_all (length (x ∷ xs) - 1) xs (omega arith) in
    ap (λ b. cond b (Some (owner_fact x)) (find (has_moved owners) (map owner_fact xs))) here
    ∙ ap (λ (ys : List OwnerBounds). find (has_moved owners) (map owner_fact ys)) (sym all)
