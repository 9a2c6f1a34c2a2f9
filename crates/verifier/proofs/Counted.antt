-- How many cases come to stand beside others.
use Rattle.std.proofs.Common.{◌≡◌, ℕ, zero, suc, ◌+◌, ◌-◌, ◌<◌, ◌≤◌, List, [], ◌∷◌, ◌++◌, Option, Some, None, refl, ap, ◌∙◌, arith, get_or, set, length, replicate, inl, inr, Box, Global}
use Rattle.std.proofs.lemmas.List.Sums.{sum_by-cons, sum_by-set}
use Rattle.verifier.proofs.Names.{length-append, length-replicate, IfSome, IsSome, Known, IsAdded, IsMerged, IsRoomFor}
use Rattle.verifier.proofs.Waits.{cases_of, same_joined, count_beside}
use Rattle.verifier.specs.WaitsParts.{AtSlots, Spends, SpendsBehind, all_beside, beside}

-- ---- one case

one_merged : (old now : List Known) → IsMerged old now → length old ≡ length now + 1
one_merged old now m =
    let o = ap (length {A = Known}) m.was ∙ length-append m.before (m.one ∷ m.after) in
    let n = same_joined (m.before ++ m.after) now m.one m.joined ∙ length-append m.before m.after in
    omega arith

-- at most one more waits
pub one_more_added : (old now : List Known) (a : Known) → IsAdded old a now → length now ≤ length old + 1
one_more_added old now a (inl (inl s)) = let n = count_beside old now a s in omega arith
one_more_added old now a (inl (inr s)) = let n = same_joined old now a s in omega arith
one_more_added old now a (inr (between, m, s)) = let n = count_beside between now a s in let o = one_merged old between m in omega arith

-- where no place was told, no more wait, and none where a place is told that was free
pub settled_counted : (old now : List (Option (Box Known Global))) (a : Known) (r : Option ℕ) → IsRoomFor old a now r → (IsSome r → now ≡ old) → length (cases_of now) ≡ length (cases_of old)
settled_counted old now a None room same = same_joined (cases_of old) (cases_of now) a room
settled_counted old now a (Some p) room same = ap (λ (xs : List (Option (Box Known Global))). length (cases_of xs)) (same refl)

none_held : (o : Option (Box Known Global)) → IsSome o → o ≡ None → ⊥
none_held o h1 h2 = grind (arith)

no_place : (r : Option ℕ) → r ≡ None → IsSome r → ⊥
no_place r h1 h2 = grind (arith)

-- a place that holds a case is not told to be free
pub never_free : (old now : List (Option (Box Known Global))) (a : Known) (place : ℕ) (r : Option ℕ) → IsSome (get_or old place None) → IsRoomFor old a now r → (IsSome r → now ≡ old) → IfSome r (λ p. p ≡ place) → IsSome r → ⊥
never_free old now a place None held room same own some = no_place None refl some
never_free old now a place (Some p) held room same own some =
    let free : get_or now p None ≡ None = room.0 in
    none_held (get_or old place None) held (rw (same some, own) at free)

-- ---- all slots

-- other cases wait at a slot
pub set_spends : (w : List (List Known)) (to : ℕ) (now : List Known) (before after : ℕ) → to < length w → length now - 1 + after ≤ length (get_or w to []) - 1 + before → all_beside (set w to now) + after ≤ all_beside w + before
set_spends w to now before after lt few = let all = sum_by-set beside w to now [] lt in omega (arith, all, few)

-- what waited at a slot is taken
pub take_spends : (w : List (List Known)) (slot before : ℕ) → slot < length w → all_beside (set w slot []) + before + (length (get_or w slot []) - 1) ≤ all_beside w + before
take_spends w slot before lt = let all = sum_by-set beside w slot [] [] lt in omega (arith, all)

none_beside : (n : ℕ) → all_beside (replicate n []) ≡ 0
none_beside zero = refl
none_beside (suc n) = let one = sum_by-cons beside [] (replicate n []) in let rest = none_beside n in omega (arith, one, rest)

-- at the start none stands beside another one
pub begun_alone : (slots : ℕ) (first : Known) → 1 ≤ slots → all_beside (set (replicate slots []) 0 (first ∷ [])) ≡ 0
begun_alone slots first some =
    let all = sum_by-set beside (replicate slots []) 0 (first ∷ []) [] (let l = length-replicate {A = List Known} slots [] in omega arith) in
    let none = none_beside slots in
    omega (arith, all, none)

pub behind_then : (slot : ℕ) (a b c : AtSlots) → SpendsBehind slot a b → Spends b c → SpendsBehind slot a c
behind_then slot a b c h g = omega (arith, h, g)
