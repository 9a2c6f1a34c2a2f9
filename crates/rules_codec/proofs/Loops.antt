-- What holds of each, and of what each of them says.
use Rattle.std.proofs.Common.{ℕ, ◌≤◌, List, [], ◌∷◌, length, map, take, All, subst}
use Rattle.std.specs.List.{AllByRecursion}
use Rattle.std.proofs.lemmas.List.{take_all}
use Rattle.std.proofs.lemmas.List.Elements.{All-from_recursion, recursion_from_All}

told : {X A : Type 0} (f : X → A) (P : A → Type 0) (xs : List X) → AllByRecursion (λ x. P (f x)) xs → AllByRecursion P (map f xs)
told f P [] h = tt
told f P (x ∷ xs) h = (h.0, told f P xs h.1)

untold : {X A : Type 0} (f : X → A) (P : A → Type 0) (xs : List X) → AllByRecursion P (map f xs) → AllByRecursion (λ x. P (f x)) xs
untold f P [] h = tt
untold f P (x ∷ xs) h = (h.0, untold f P xs h.1)

-- where a loop over them has ended
pub facts_after : {X A : Type 0} (f : X → A) (P : A → Type 0) (xs : List X) (n : ℕ) → length xs ≤ n → All (λ x. P (f x)) (take n xs) → AllByRecursion P (map f xs)
facts_after {X = X} f P xs n end h = told f P xs (recursion_from_All (λ x. P (f x)) xs (subst (λ (ys : List X). All (λ x. P (f x)) ys) (take_all n xs end) h))

pub each_of : {X A : Type 0} (f : X → A) (P : A → Type 0) (xs : List X) → AllByRecursion P (map f xs) → All (λ x. P (f x)) xs
each_of f P xs h = All-from_recursion (λ x. P (f x)) xs (untold f P xs h)
