-- A loop that changes each element of a list.
use Rattle.std.proofs.Common.{◌≡◌, true, ℕ, zero, suc, ◌+◌, ◌<◌, ◌≤◌, List, [], ◌∷◌, length, map, get_or, set, refl, ap, subst, sym, ◌∙◌, add-one, arith}
use Rattle.std.specs.Prelude.{bytes_eq, if◌then◌else◌}
use Rattle.metrics.specs.Denied.{Denied, counted_in, denied_by, denied_once, has_hook, once_more}
use Rattle.metrics.specs.declared.denials.DeniedBy.{DeniedBy}

-- so many are changed
abbrev pub front_changed : {A : Type 0} → (A → A) → ℕ → List A → List A
front_changed f zero xs = xs
front_changed f (suc i) [] = []
front_changed f (suc i) (x ∷ xs) = f x ∷ front_changed f i xs

-- one more
one_changed : {A : Type 0} (f : A → A) (i : ℕ) (xs : List A) (d : A) → i < length (front_changed f i xs) →
    set (front_changed f i xs) i (f (get_or (front_changed f i xs) i d)) ≡ front_changed f (suc i) xs
one_changed f zero [] d within = absurd (omega (arith, within))
one_changed f (suc i) [] d within = absurd (omega (arith, within))
one_changed f zero (x ∷ xs) d within = refl
one_changed {A} f (suc i) (x ∷ xs) d within = ap (λ (l : List A). f x ∷ l) (one_changed f i xs d (omega (arith, within)))

pub next_changed : {A : Type 0} (f : A → A) (i : ℕ) (xs ys : List A) (d v : A) → ys ≡ front_changed f i xs → i < length ys → v ≡ f (get_or ys i d) →
    set ys i v ≡ front_changed f (i + 1) xs
next_changed {A} f i xs ys d v are within is =
    let short : i < length (front_changed f i xs) = subst (λ (l : List A). i < length l) are within in
    ap (λ (u : A). set ys i u) is
    ∙ ap (λ (l : List A). set l i (f (get_or l i d))) are
    ∙ one_changed f i xs d short
    ∙ ap (λ (k : ℕ). front_changed f k xs) (sym (add-one i))

-- all
pub all_changed : {A : Type 0} (f : A → A) (i : ℕ) (xs ys : List A) → ys ≡ front_changed f i xs → length xs ≤ i → ys ≡ map f xs
all_changed f i xs ys are all = are ∙ changed f i xs all
  where
    changed : {A : Type 0} (f : A → A) (i : ℕ) (xs : List A) → length xs ≤ i → front_changed f i xs ≡ map f xs
    changed f zero [] all = refl
    changed f (suc i) [] all = refl
    changed f zero (x ∷ xs) all = absurd (omega (arith, all))
    changed {A} f (suc i) (x ∷ xs) all = ap (λ (l : List A). f x ∷ l) (changed f i xs (omega (arith, all)))

-- what is counted of hooks that denied
pub counted_once : (hook : List ℕ) (by : List DeniedBy) → map counted_in (map (denied_once hook) by) ≡ map (once_more hook) (map counted_in by)
counted_once hook [] = refl
counted_once hook (denied ∷ by) = grind (arith, counted_once hook by)

-- as a value
abbrev pub seen : List DeniedBy → ℕ → Denied
seen by others = record { by = map counted_in by; others = others }

-- one that denied before denied once more
pub noted_here : (hook : List ℕ) (raw new : List DeniedBy) (others : ℕ) → has_hook hook (map counted_in raw) ≡ true → new ≡ map (denied_once hook) raw →
    seen new others ≡ denied_by (seen raw others) hook
noted_here hook raw new others has is = rw (is, counted_once hook raw, has)
