-- The way along a list. For proofs alone.
use Rattle.std.proofs.Common.{◌≡◌, ◌≢◌, ◌≤◌, ◌<◌, ◌+◌, ◌-◌, ◌==◌, ℕ, suc, List, [], ◌∷◌, ◌++◌, Option, Some, None, Bool, true, false, cond, length, refl, ap, ◌∙◌, sym, subst, arith}
use Rattle.std.proofs.lemmas.Bool.Decides.{nat_tests}
use Rattle.std.specs.Prelude.{is_some, not}
use Rattle.chains.specs.declared.chains.Chains.{Chains}
use Rattle.chains.specs.Chained.{Chained, Follows, first_of, left, times_in, to_go, steps}
use Rattle.chains.specs.Following.{follows_cell, follows_from, none_in, short, shorter_row, steps_are, times, times-append, times-cons}

-- no list has a number twice
pub once_in : {chains : Chains} {place : ℕ → Option ℕ} (chained : Chained chains place) (list x : ℕ) → list < chains.heads → times x (chained.lists list) ≤ 1
once_in {chains} {place} chained list x is_list = by (place x) (chained.placed list x is_list)
  where
    by : (o : Option ℕ) → times x (chained.lists list) ≡ times_in list o → times x (chained.lists list) ≤ 1
    by None is = omega (arith, is)
    by (Some l) is = grind (arith, is)

-- what has the list for its place is there
pub there_once : {chains : Chains} {place : ℕ → Option ℕ} (chained : Chained chains place) (list x : ℕ) → list < chains.heads → place x ≡ Some list → times x (chained.lists list) ≡ 1
there_once chained list x is_list there = let is = chained.placed list x is_list in grind (arith, nat_tests, is, there)

-- and what is there has it for its place
pub in_place : (list x n : ℕ) (o : Option ℕ) → n ≡ times_in list o → 0 < n → o ≡ Some list
in_place list x n None is some = absurd (omega (arith, is, some))
in_place list x n (Some l) is some = let same : l ≡ list = grind (arith, nat_tests, is, some) in ap (λ k. Some k) same

-- it is nearer to the end from the next number on
pub to_go-less : {chains : Chains} {place : ℕ → Option ℕ} (chained : Chained chains place) (list : ℕ) (front : List ℕ) (x : ℕ) (rest : List ℕ) → list < chains.heads →
    chained.lists list ≡ front ++ x ∷ rest → to_go chains (first_of rest) < to_go chains (Some x)
to_go-less {chains} chained list front x rest is_list split =
    let cells = chains.cells.items in
    let heads = chains.heads in
    let whole = subst (Follows cells heads list) split (chained.follows list is_list) in
    let here = follows_from cells heads list front x rest whole in
    let once : (y : ℕ) → times y rest ≤ 1 = λ y. (
    let all = subst (λ xs. times y xs ≤ 1) split (once_in chained list y is_list) in
    let both = times-append y front (x ∷ rest) in
    let one = times-cons y x rest in omega (arith, all, both, one)) in
    let le = short cells heads (heads + x) rest once here.1 in
    let are = steps_are (length cells) cells heads (heads + x) rest chained.few le here.1 in
    by rest here.1 le are
  where
    by : (ys : List ℕ) → Follows chains.cells.items chains.heads (chains.heads + x) ys → length ys ≤ length chains.cells.items →
        steps (length chains.cells.items) chains.cells.items chains.heads (chains.heads + x) ≡ length ys → to_go chains (first_of ys) < to_go chains (Some x)
    by [] follows le are = omega arith
    by (y ∷ ys) follows le are =
        let more = steps_are (length chains.cells.items) chains.cells.items chains.heads (chains.heads + y) ys chained.few (omega (arith, le)) follows.2 in
        omega (arith, are, more)

-- places that are the same for each number
pub same_place : {chains : Chains} (place place' : ℕ → Option ℕ) → ((x : ℕ) → place' x ≡ place x) → Chained chains place → Chained chains place'
same_place place place' same chained = record {
  lists = chained.lists;
  follows = chained.follows;
  placed = λ list x is_list. chained.placed list x is_list ∙ ap (times_in list) (sym (same x));
  inside = chained.inside;
  few = chained.few;
}

-- HOW MANY A LIST HAS

-- the list with the number once less
without : ℕ → List ℕ → List ℕ
without x [] = []
without x (y ∷ ys) = cond {A = List ℕ} (x == y) ys (y ∷ without x ys)

without_times : (x z : ℕ) (ys : List ℕ) → 0 < times x ys → times z ys ≡ times z (without x ys) + cond {A = ℕ} (z == x) 1 0
unfolding without
without_times x z [] some = absurd (omega (arith, some))
without_times x z (y ∷ ys) some = by (x == y) refl (λ rest. without_times x z ys rest)
  where
    by : (b : Bool) → (x == y) ≡ b → (0 < times x ys → times z ys ≡ times z (without x ys) + cond {A = ℕ} (z == x) 1 0) → times z (y ∷ ys) ≡ times z (without x (y ∷ ys)) + cond {A = ℕ} (z == x) 1 0
    by true same more =
        let is : x ≡ y = grind (arith, nat_tests, same) in
        let one = times-cons z y ys in
        let of : cond {A = ℕ} (z == y) 1 0 ≡ cond {A = ℕ} (z == x) 1 0 = ap (λ n. cond {A = ℕ} (z == n) 1 0) (sym is) in
        rw same (omega (arith, one, of))
    by false other more_of =
        let rest : 0 < times x ys = (let own = times-cons x y ys in grind (arith, own, some, other)) in
        let more = more_of rest in
        let one = times-cons z y ys in
        let its = times-cons z y (without x ys) in
        rw other (omega (arith, more, one, its))

without_length : (x : ℕ) (ys : List ℕ) → 0 < times x ys → length ys ≡ suc (length (without x ys))
unfolding without
without_length x [] some = absurd (omega (arith, some))
without_length x (y ∷ ys) some = by (x == y) refl (λ rest. without_length x ys rest)
  where
    by : (b : Bool) → (x == y) ≡ b → (0 < times x ys → length ys ≡ suc (length (without x ys))) → length (y ∷ ys) ≡ suc (length (without x (y ∷ ys)))
    by true same more = rw same refl
    by false other more =
        let rest : 0 < times x ys = (let own = times-cons x y ys in grind (arith, own, some, other)) in
        rw other (ap suc (more rest))

-- a list that has no number more often than another is no longer
no_longer : (xs ys : List ℕ) → ((z : ℕ) → times z xs ≤ times z ys) → length xs ≤ length ys
no_longer [] ys le = omega arith
no_longer (x ∷ xs) ys le =
    let own = times-cons x x xs in
    let here = le x in
    let some : 0 < times x ys = grind (arith, nat_tests, own, here) in
    let rest = no_longer xs (without x ys) (λ z. (let a = times-cons z x xs in let b = without_times x z ys some in let c = le z in omega (arith, a, b, c))) in
    let long = without_length x ys some in
    omega (arith, rest, long)

shorter : (xs ys : List ℕ) (x : ℕ) → ((z : ℕ) → times z xs ≤ times z ys) → times x xs < times x ys → length xs < length ys
shorter xs ys x le less =
    let some : 0 < times x ys = omega (arith, less) in
    let rest = no_longer xs (without x ys) (λ z. by z (z == x) refl (without_times x z ys some)) in
    let long = without_length x ys some in
    omega (arith, rest, long)
  where
    by : (z : ℕ) (b : Bool) → (z == x) ≡ b → times z ys ≡ times z (without x ys) + cond {A = ℕ} (z == x) 1 0 → times z xs ≤ times z (without x ys)
    by z true same is = let at : z ≡ x = grind (arith, nat_tests, same) in let two = subst (λ w. times w xs < times w ys) (sym at) less in grind (arith, is, same, two)
    by z false other is = let c = le z in grind (arith, is, other, c)

-- what is left of a list is what is in it
left_is : {chains : Chains} {place : ℕ → Option ℕ} (chained : Chained chains place) (list : ℕ) → list < chains.heads → left chains list ≡ length (chained.lists list)
left_is {chains} chained list is_list =
    let follows = chained.follows list is_list in
    let le = short chains.cells.items chains.heads list (chained.lists list) (λ y. once_in chained list y is_list) follows in
    steps_are (length chains.cells.items) chains.cells.items chains.heads list (chained.lists list) chained.few le follows

times_le : (list : ℕ) (o o' : Option ℕ) → (o' ≡ Some list → o ≡ Some list) → times_in list o' ≤ times_in list o
times_le list o None from = omega arith
times_le list o (Some l) from = by (l == list) refl
  where
    by : (b : Bool) → (l == list) ≡ b → times_in list (Some l) ≤ times_in list o
    by true same = let at : l ≡ list = grind (arith, nat_tests, same) in let was = from (ap (λ n. Some n) at) in rw (was, same) (let own : (list == list) ≡ true = grind (arith, nat_tests) in rw own (omega arith))
    by false other = rw other (omega arith)

gone_times : (list : ℕ) (o : Option ℕ) → o ≢ Some list → times_in list o ≡ 0
gone_times list None ne = refl
gone_times list (Some l) ne = let other : (l == list) ≡ false = grind (arith, nat_tests, ne) in rw other refl

-- a list that a number has left, and to which none has come, has fewer
pub fewer_left : {old new : Chains} {place place' : ℕ → Option ℕ} (chained : Chained old place) (chained' : Chained new place') (list x : ℕ) → list < old.heads → list < new.heads →
    place x ≡ Some list → place' x ≢ Some list → ((y : ℕ) → place' y ≡ Some list → place y ≡ Some list) → left new list < left old list
fewer_left {old} {new} {place} {place'} chained chained' list x is_list is_list' there gone came =
    let was = left_is chained list is_list in
    let is = left_is chained' list is_list' in
    let one = there_once chained list x is_list there in
    let none = chained'.placed list x is_list' ∙ gone_times list (place' x) gone in
    let less = shorter (chained'.lists list) (chained.lists list) x (λ z. le z (chained.placed list z is_list) (chained'.placed list z is_list') (times_le list (place z) (place' z) (came z))) (omega (arith, one, none)) in
    omega (arith, was, is, less)
  where
    le : (z : ℕ) → times z (chained.lists list) ≡ times_in list (place z) → times z (chained'.lists list) ≡ times_in list (place' z) → times_in list (place' z) ≤ times_in list (place z) →
        times z (chained'.lists list) ≤ times z (chained.lists list)
    le z a b c = omega (arith, a, b, c)

-- a list to which none has come has no more
pub no_more_left : {old new : Chains} {place place' : ℕ → Option ℕ} (chained : Chained old place) (chained' : Chained new place') (list : ℕ) → list < old.heads → list < new.heads →
    ((y : ℕ) → place' y ≡ Some list → place y ≡ Some list) → left new list ≤ left old list
no_more_left {old} {new} {place} {place'} chained chained' list is_list is_list' came =
    let was = left_is chained list is_list in
    let is = left_is chained' list is_list' in
    let fewer = no_longer (chained'.lists list) (chained.lists list) (λ z. le z (chained.placed list z is_list) (chained'.placed list z is_list') (times_le list (place z) (place' z) (came z))) in
    omega (arith, was, is, fewer)
  where
    le : (z : ℕ) → times z (chained.lists list) ≡ times_in list (place z) → times z (chained'.lists list) ≡ times_in list (place' z) → times_in list (place' z) ≤ times_in list (place z) →
        times z (chained'.lists list) ≤ times z (chained.lists list)
    le z a b c = omega (arith, a, b, c)

no_times : (x : ℕ) (xs : List ℕ) → length xs ≡ 0 → times x xs ≡ 0
no_times x [] none = refl
no_times x (y ∷ ys) none = absurd (omega (arith, none))

-- a list of which nothing is left has no number
pub none_left : {chains : Chains} {place : ℕ → Option ℕ} (chained : Chained chains place) (list : ℕ) → list < chains.heads → left chains list ≡ 0 → (x : ℕ) → place x ≢ Some list
none_left {chains} chained list is_list none x there =
    let once = there_once chained list x is_list there in
    let long = left_is chained list is_list in
    let never = no_times x (chained.lists list) (omega (arith, long, none)) in
    absurd (omega (arith, once, never))

-- a list that no number has for its place has nothing left
pub left_none : {chains : Chains} {place : ℕ → Option ℕ} (chained : Chained chains place) (list : ℕ) → list < chains.heads → ((x : ℕ) → place x ≢ Some list) → left chains list ≡ 0
left_none {chains} {place} chained list is_list none =
    left_is chained list is_list ∙ ap (λ xs. length xs) (none_in (chained.lists list) (λ x. chained.placed list x is_list ∙ gone_times list (place x) (none x)))

-- something comes first where something is left
pub first_left : {chains : Chains} {place : ℕ → Option ℕ} (chained : Chained chains place) (list : ℕ) → list < chains.heads → is_some (first_of (chained.lists list)) ≡ not (left chains list == 0)
first_left {chains} chained list is_list = by (chained.lists list) (left_is chained list is_list)
  where
    by : (xs : List ℕ) → left chains list ≡ length xs → is_some (first_of xs) ≡ not (left chains list == 0)
    by [] is = rw is refl
    by (x ∷ xs) is = let some : (left chains list == 0) ≡ false = grind (arith, nat_tests, is) in rw some refl

-- a list to which one at most has come has one more at most
pub one_more_left : {old new : Chains} {place place' : ℕ → Option ℕ} (chained : Chained old place) (chained' : Chained new place') (list x : ℕ) → list < old.heads → list < new.heads →
    ((y : ℕ) → y ≢ x → place' y ≡ Some list → place y ≡ Some list) → left new list ≤ left old list + 1
one_more_left {old} {new} {place} {place'} chained chained' list x is_list is_list' came =
    let was = left_is chained list is_list in
    let is = left_is chained' list is_list' in
    let fewer = no_longer (chained'.lists list) (x ∷ chained.lists list) (λ z. by z (z == x) refl (times-cons z x (chained.lists list))) in
    omega (arith, was, is, fewer)
  where
    by : (z : ℕ) (b : Bool) → (z == x) ≡ b → times z (x ∷ chained.lists list) ≡ cond {A = ℕ} (z == x) 1 0 + times z (chained.lists list) → times z (chained'.lists list) ≤ times z (x ∷ chained.lists list)
    by z true same one = let few = once_in chained' list z is_list' in grind (arith, same, one, few)
    by z false other one =
        let ne : z ≢ x = λ e. absurd (grind (arith, nat_tests, other, e)) in
        let a = chained.placed list z is_list in
        let b = chained'.placed list z is_list' in
        let le = times_le list (place z) (place' z) (came z ne) in
        grind (arith, other, one, a, b, le)

-- a list has no more numbers than there are cells behind the heads
pub few_left : {chains : Chains} {place : ℕ → Option ℕ} (chained : Chained chains place) (list : ℕ) → list < chains.heads → left chains list ≤ length chains.cells.items - chains.heads
few_left {chains} chained list is_list =
    let is = left_is chained list is_list in
    let le = shorter_row chains.cells.items chains.heads list (chained.lists list) (λ y. once_in chained list y is_list) (chained.follows list is_list) in
    omega (arith, is, le)
