-- How numbers follow one another in a row of cells. For proofs alone.
use Rattle.std.proofs.Common.{◌≡◌, ◌≢◌, ◌≤◌, ◌<◌, ◌+◌, ◌-◌, ◌==◌, ℕ, zero, suc, List, [], ◌∷◌, ◌++◌, Option, Some, None, Bool, true, false, cond, length, get_or, set, replicate, refl, ap, ◌∙◌, sym, subst, arith}
use Rattle.std.specs.Prelude.{count_by, nat_eq, if◌then◌else◌}
use Rattle.std.specs.List.{list_any, AllByRecursion, IsDistinct}
use Rattle.std.proofs.lemmas.Map.Keys.{IsDistinct-cons}
use Rattle.std.proofs.lemmas.Map.Steps.{length-le_from_distinct_below}
use Rattle.std.proofs.lemmas.Bool.Decides.{nat_tests}
use Rattle.std.proofs.lemmas.List.{get_or-set_same, get_or-set_other, get_or_default, length-set}
use Rattle.std.proofs.lemmas.List.Sums.{sum_by-cons, sum_by-append}
use Rattle.chains.specs.Chained.{cell_at, first_of, none, steps, Follows}
use Rattle.chains.specs.Before.{last_cell}

-- HOW OFTEN A NUMBER IS IN A LIST

abbrev pub times : ℕ → List ℕ → ℕ
times x xs = count_by (nat_eq x) xs

pub times-cons : (x y : ℕ) (ys : List ℕ) → times x (y ∷ ys) ≡ cond {A = ℕ} (x == y) 1 0 + times x ys
times-cons x y ys = sum_by-cons (λ z. cond {A = ℕ} (x == z) 1 0) y ys

pub times-append : (x : ℕ) (ys zs : List ℕ) → times x (ys ++ zs) ≡ times x ys + times x zs
times-append x ys zs = sum_by-append (λ z. cond {A = ℕ} (x == z) 1 0) ys zs

pub times-amid : (x y : ℕ) (ys zs : List ℕ) → times x (ys ++ y ∷ zs) ≡ times x (ys ++ zs) + cond {A = ℕ} (x == y) 1 0
times-amid x y ys zs =
    let a = times-append x ys (y ∷ zs) in
    let b = times-append x ys zs in
    let c = times-cons x y zs in
    omega (arith, a, b, c)

pub none_in : (xs : List ℕ) → ((x : ℕ) → times x xs ≡ 0) → xs ≡ []
none_in [] never = refl
none_in (x ∷ xs) never = absurd (let here = never x in let is = times-cons x x xs in grind (arith, nat_tests, here, is))

-- FOLLOWING

-- where the first cell, and those of the numbers, tell the same
pub follows_moved : (cells cells' : List ℕ) (heads p q : ℕ) (xs : List ℕ) → length cells ≤ length cells' → cell_at cells' q ≡ cell_at cells p →
    ((z : ℕ) → 0 < times z xs → cell_at cells' (heads + z) ≡ cell_at cells (heads + z)) → Follows cells heads p xs → Follows cells' heads q xs
follows_moved cells cells' heads p q [] le same rest is = same ∙ is
follows_moved cells cells' heads p q (x ∷ xs) le same rest is =
    let own = times-cons x x xs in
    let here : 0 < times x (x ∷ xs) = grind (arith, nat_tests, own) in
    let inside = is.1 in
    let more : (z : ℕ) → 0 < times z xs → cell_at cells' (heads + z) ≡ cell_at cells (heads + z) =
    λ z some. rest z (let one = times-cons z x xs in omega (arith, one, some)) in
    (same ∙ is.0, omega (arith, le, inside), follows_moved cells cells' heads (heads + x) (heads + x) xs le (rest x here) more is.2)

-- a cell is followed by one list
pub follows_one : (cells : List ℕ) (heads p : ℕ) (xs ys : List ℕ) → length cells ≤ none → Follows cells heads p xs → Follows cells heads p ys → xs ≡ ys
follows_one cells heads p [] [] few a b = refl
follows_one cells heads p [] (y ∷ ys) few a b = absurd (let is = b.0 in let inside = b.1 in omega (arith, few, a, is, inside))
follows_one cells heads p (x ∷ xs) [] few a b = absurd (let is = a.0 in let inside = a.1 in omega (arith, few, b, is, inside))
follows_one cells heads p (x ∷ xs) (y ∷ ys) few a b =
    let same : y ≡ x = sym b.0 ∙ a.0 in
    let more = follows_one cells heads (heads + x) xs ys few a.2 (subst (λ n. Follows cells heads (heads + n) ys) same b.2) in
    ap (λ zs. x ∷ zs) more ∙ ap (λ n. n ∷ ys) (sym same)

-- what follows the number's own cell
pub follows_from : (cells : List ℕ) (heads p : ℕ) (front : List ℕ) (x : ℕ) (rest : List ℕ) → Follows cells heads p (front ++ x ∷ rest) →
    (heads + x < length cells) × Follows cells heads (heads + x) rest
follows_from cells heads p [] x rest is = (is.1, is.2)
follows_from cells heads p (y ∷ ys) x rest is = follows_from cells heads (heads + y) ys x rest is.2

-- what follows has cells
pub follows_cell : (cells : List ℕ) (heads p : ℕ) (xs : List ℕ) (z : ℕ) → Follows cells heads p xs → 0 < times z xs → heads + z < length cells
follows_cell cells heads p [] z is some = absurd (omega (arith, some))
follows_cell cells heads p (x ∷ xs) z is some = by (z == x) refl (follows_cell cells heads (heads + x) xs z is.2)
  where
    by : (b : Bool) → (z == x) ≡ b → (0 < times z xs → heads + z < length cells) → heads + z < length cells
    by true same more = let here = is.1 in let at : z ≡ x = grind (arith, nat_tests, same) in omega (arith, here, at)
    by false other more = let one = times-cons z x xs in more (grind (arith, one, some, other))

-- what the first cell tells is the first of the list
pub first_told : (cells : List ℕ) (heads p : ℕ) (xs : List ℕ) (r : Option ℕ) → length cells ≤ none → Follows cells heads p xs →
    (cell_at cells p ≡ none → r ≡ None) → (cell_at cells p ≢ none → r ≡ Some (cell_at cells p)) → r ≡ first_of xs
first_told cells heads p [] r few is never gives = never is
first_told cells heads p (x ∷ xs) r few is never gives =
    let at = is.0 in
    let inside = is.1 in
    gives (λ none_here. absurd (omega (arith, few, at, inside, none_here))) ∙ ap (λ n. Some n) at

-- WITHOUT ONE

-- the last cell is the one before all, or that of one of them
pub data LastCell (heads p : ℕ) (front : List ℕ) : Type 0 where
  Own : front ≡ [] → LastCell heads p front
  Of : (w : ℕ) → last_cell heads p front ≡ heads + w → 0 < times w front → LastCell heads p front

pub last_of : (heads p : ℕ) (front : List ℕ) → LastCell heads p front
last_of heads p [] = Own refl
last_of heads p (y ∷ ys) = by (last_of heads (heads + y) ys)
  where
    own : 0 < times y (y ∷ ys)
    own = let is = times-cons y y ys in grind (arith, nat_tests, is)

    by : LastCell heads (heads + y) ys → LastCell heads p (y ∷ ys)
    by (Own none_there) = Of y (ap (last_cell heads (heads + y)) none_there) own
    by (Of w is some) = Of w is (let one = times-cons w y ys in omega (arith, one, some))

-- The cell before the number tells what the number's own cell told.
pub follows_without : (cells : List ℕ) (heads p : ℕ) (front : List ℕ) (x : ℕ) (rest : List ℕ) → ((z : ℕ) → times z (front ++ x ∷ rest) ≤ 1) →
    ((z : ℕ) → 0 < times z (front ++ x ∷ rest) → heads + z ≢ p) → p < length cells → Follows cells heads p (front ++ x ∷ rest) →
    Follows (set cells (last_cell heads p front) (cell_at cells (heads + x))) heads p (front ++ rest)
follows_without cells heads p [] x rest once apart inside is =
    let v = cell_at cells (heads + x) in
    let long = length-set cells p v in
    follows_moved cells (set cells p v) heads (heads + x) p rest (omega (arith, long)) (get_or-set_same cells p v none inside)
    (λ z some. get_or-set_other cells p (heads + z) v none (apart z (let one = times-cons z x rest in omega (arith, one, some)))) is.2
follows_without cells heads p (y ∷ ys) x rest once apart inside is =
    let v = cell_at cells (heads + x) in
    let q = last_cell heads (heads + y) ys in
    let long = length-set cells q v in
    let here = is.1 in (
      get_or-set_other cells q p v none (past (last_of heads p (y ∷ ys))) ∙ is.0,
      omega (arith, long, here),
      follows_without cells heads (heads + y) ys x rest once' apart' here is.2,
    )
  where
    once' : (z : ℕ) → times z (ys ++ x ∷ rest) ≤ 1
    once' z = let all = once z in let one = times-cons z y (ys ++ x ∷ rest) in omega (arith, all, one)

    apart' : (z : ℕ) → 0 < times z (ys ++ x ∷ rest) → heads + z ≢ heads + y
    apart' z some same =
        let all = once z in
        let one = times-cons z y (ys ++ x ∷ rest) in
        let is : z ≡ y = omega (arith, same) in
        absurd (grind (arith, nat_tests, all, one, is, some))

    past : LastCell heads p (y ∷ ys) → p ≢ last_cell heads (heads + y) ys
    past (Own never) same = cc
    past (Of w is some) same =
        let both = times-append w (y ∷ ys) (x ∷ rest) in
        apart w (omega (arith, both, some)) (sym is ∙ sym same)

-- READING

-- what is read of a row
pub cell_read : (cells : List ℕ) (i v : ℕ) → i < length cells → v ≡ get_or cells i v → v ≡ cell_at cells i
cell_read cells i v inside is = is ∙ get_or_default cells i v none inside

-- a row in which no cell tells a number
pub blank : (n p : ℕ) → cell_at (replicate n none) p ≡ none
blank zero p = refl
blank (suc n) zero = refl
blank (suc n) (suc p) = blank n p

-- one more such cell tells none, as what is not there
pub blank_more : (cells : List ℕ) (p : ℕ) → cell_at (cells ++ none ∷ []) p ≡ cell_at cells p
blank_more [] zero = refl
blank_more [] (suc p) = refl
blank_more (x ∷ xs) zero = refl
blank_more (x ∷ xs) (suc p) = blank_more xs p

-- the list begins with the number
pub record Headed (xs : List ℕ) (x : ℕ) : Type 0 where
  pub rest : List ℕ
  pub is : xs ≡ x ∷ rest

pub headed : (xs : List ℕ) (x : ℕ) → first_of xs ≡ Some x → Headed xs x
headed [] x at = cc
headed (y ∷ ys) x at = let same : y ≡ x = grind (arith, at) in record { rest = ys; is = ap (λ n. n ∷ ys) same }

pub unheaded : (xs : List ℕ) → first_of xs ≡ None → xs ≡ []
unheaded [] none_there = refl
unheaded (y ∷ ys) none_there = cc

-- HOW FAR IT IS TO THE END

pub steps_are : (n : ℕ) (cells : List ℕ) (heads cell : ℕ) (xs : List ℕ) → length cells ≤ none → length xs ≤ n → Follows cells heads cell xs → steps n cells heads cell ≡ length xs
steps_are zero cells heads cell [] few le is = refl
steps_are (suc n) cells heads cell [] few le is = rw is refl
steps_are zero cells heads cell (x ∷ xs) few le is = absurd (omega arith)
steps_are (suc n) cells heads cell (x ∷ xs) few le is =
    let at = is.0 in
    let inside = is.1 in
    let some : (x == none) ≡ false = grind (arith, nat_tests, few, inside) in
    let more = steps_are n cells heads (heads + x) xs few (omega (arith, le)) is.2 in
    rw (at, some) (ap suc more)

-- numbers that follow have cells
follows_inside : (cells : List ℕ) (heads cell : ℕ) (xs : List ℕ) (q : ℕ) → Follows cells heads cell xs → list_any (nat_eq q) xs ≡ true → heads + q < length cells
follows_inside cells heads cell [] q is any = cc
follows_inside cells heads cell (x ∷ xs) q is any = by (q == x) refl (follows_inside cells heads (heads + x) xs q is.2)
  where
    by : (b : Bool) → (q == x) ≡ b → (list_any (nat_eq q) xs ≡ true → heads + q < length cells) → heads + q < length cells
    by true same more = let here = is.1 in let at : q ≡ x = grind (arith, nat_tests, same) in omega (arith, here, at)
    by false other more = more (grind (arith, any, other))

unlike : (x : ℕ) (xs : List ℕ) → times x xs ≡ 0 → AllByRecursion (λ y. nat_eq x y ≡ false) xs
unlike x [] never = tt
unlike x (y ∷ ys) never = let one = times-cons x y ys in (grind (arith, nat_tests, one, never), unlike x ys (omega (arith, one, never)))

distinct : (xs : List ℕ) → ((x : ℕ) → times x xs ≤ 1) → IsDistinct nat_eq xs
unfolding IsDistinct
distinct [] once = tt
distinct (x ∷ xs) once =
    let own = times-cons x x xs in
    let all = once x in
    let never : times x xs ≡ 0 = grind (arith, nat_tests, own, all) in
    IsDistinct-cons nat_eq x xs (unlike x xs never) (distinct xs (λ y. (let one = times-cons y x xs in let few = once y in omega (arith, one, few))))

-- numbers that have cells, each once, are no more than there are cells behind the heads
pub shorter_row : (cells : List ℕ) (heads cell : ℕ) (xs : List ℕ) → ((x : ℕ) → times x xs ≤ 1) → Follows cells heads cell xs → length xs ≤ length cells - heads
shorter_row cells heads cell xs once is =
    length-le_from_distinct_below xs (length cells - heads) (distinct xs once) (λ q any. (let inside = follows_inside cells heads cell xs q is any in omega (arith, inside)))

pub short : (cells : List ℕ) (heads cell : ℕ) (xs : List ℕ) → ((x : ℕ) → times x xs ≤ 1) → Follows cells heads cell xs → length xs ≤ length cells
short cells heads cell xs once is = let less = shorter_row cells heads cell xs once is in omega (arith, less)
