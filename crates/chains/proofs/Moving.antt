-- Lists of a row after a number has come or gone.
use Rattle.std.proofs.Common.{◌≡◌, ◌≢◌, ◌≤◌, ◌<◌, ◌+◌, ◌==◌, ℕ, List, [], ◌∷◌, ◌++◌, Option, Some, None, Bool, true, false, cond, length, get_or, set, replicate, refl, ap, ◌∙◌, sym, subst, arith}
use Rattle.std.specs.Prelude.{count_by, nat_eq, if◌then◌else◌}
use Rattle.std.proofs.lemmas.Bool.Decides.{nat_tests}
use Rattle.std.proofs.lemmas.List.{get_or-set_same, get_or-set_other, length-append, length-replicate, length-set}
use Rattle.chains.specs.declared.chains.Chains.{Chains}
use Rattle.chains.specs.Chained.{cell_at, none, Follows, times_in, Chained, IsShaped, moved, place_moved, all_moved}
use Rattle.chains.specs.Before.{last_cell}
use Rattle.chains.specs.ChainedLaws.{in_place, once_in, there_once}
use Rattle.chains.specs.Following.{times, times-append, times-cons, times-amid, none_in, follows_moved, follows_without, LastCell, last_of, blank, blank_more}
use Rattle.chains.specs.Following.LastCell.{Own, Of}

-- OUT OF A LIST

pub chained_without : (old new : Chains) (place : ℕ → Option ℕ) (list : ℕ) (front : List ℕ) (x : ℕ) (rest : List ℕ) (chained : Chained old place) → list < old.heads → place x ≡ Some list →
    chained.lists list ≡ front ++ x ∷ rest → new.cells.items ≡ set old.cells.items (last_cell old.heads list front) (cell_at old.cells.items (old.heads + x)) →
    new.heads ≡ old.heads → Chained new (moved place x None)
chained_without old new place list front x rest chained is_list there split set_to same_heads = record {
  lists = lists;
  follows = rw (same_heads, set_to) (λ l is. by_list l is (l == list) refl);
  placed = rw same_heads (λ l y is. by_place l y is (l == list) refl);
  inside = rw (same_heads, set_to, length-set cells q v) chained.inside;
  few = rw (set_to, length-set cells q v) chained.few;
}
  where
    cells : List ℕ
    cells = old.cells.items

    q : ℕ
    q = last_cell old.heads list front

    v : ℕ
    v = cell_at old.cells.items (old.heads + x)

    lists : ℕ → List ℕ
    lists l = if l == list then front ++ rest else chained.lists l

    apart : (z : ℕ) → old.heads + z ≢ list
    apart z same = absurd (omega (arith, is_list, same))

    other_cell : (l : ℕ) → l < old.heads → l ≢ list → LastCell old.heads list front → l ≢ q
    other_cell l is ne (Own never) same = ne (same ∙ ap (last_cell old.heads list) never)
    other_cell l is ne (Of w at some) same = absurd (omega (arith, is, at, same))

    in_front : (w : ℕ) → 0 < times w front → place w ≡ Some list
    in_front w some =
        let whole : times w (chained.lists list) ≡ times w (front ++ x ∷ rest) = ap (times w) split in
        let both = times-amid w x front rest in
        let less = times-append w front rest in
        in_place list w (times w (chained.lists list)) (place w) (chained.placed list w is_list) (omega (arith, whole, both, less, some))

    other_own : (l z : ℕ) → l < old.heads → l ≢ list → 0 < times z (chained.lists l) → LastCell old.heads list front → old.heads + z ≢ q
    other_own l z is ne some (Own never) same = apart z (same ∙ ap (last_cell old.heads list) never)
    other_own l z is ne some (Of w at some_w) same =
        let here : place z ≡ Some l = in_place l z (times z (chained.lists l)) (place z) (chained.placed l z is) some in
        let there_w = in_front w some_w in
        let own : z ≡ w = omega (arith, same, at) in
        let theirs : place z ≡ Some list = ap place own ∙ there_w in
        absurd (grind (arith, here, theirs, ne))

    by_list : (l : ℕ) → l < old.heads → (b : Bool) → (l == list) ≡ b → Follows (set cells q v) old.heads l (lists l)
    by_list l is true same =
        let at : l ≡ list = grind (arith, nat_tests, same) in
        let inside = chained.inside in
        let whole = subst (λ xs. Follows cells old.heads list xs) split (chained.follows list is_list) in
        let once : (z : ℕ) → times z (front ++ x ∷ rest) ≤ 1 = λ z. subst (λ xs. times z xs ≤ 1) split (once_in chained list z is_list) in
        let is_front : lists l ≡ front ++ rest = rw same refl in
        rw (is_front, at) (follows_without cells old.heads list front x rest once (λ z some. apart z) (omega (arith, inside, is_list)) whole)
    by_list l is false other =
        let ne : l ≢ list = λ at. absurd (grind (arith, nat_tests, other, at)) in
        let last = last_of old.heads list front in
        let long = length-set cells q v in
        let is_own : lists l ≡ chained.lists l = rw other refl in
        rw is_own (follows_moved cells (set cells q v) old.heads l l (chained.lists l) (omega (arith, long)) (get_or-set_other cells q l v none (other_cell l is ne last))
        (λ z some. get_or-set_other cells q (old.heads + z) v none (other_own l z is ne some last)) (chained.follows l is))

    by_place : (l y : ℕ) → l < old.heads → (b : Bool) → (l == list) ≡ b → times y (lists l) ≡ times_in l (moved place x None y)
    by_place l y is true same =
        let at : l ≡ list = grind (arith, nat_tests, same) in
        let whole : times y (chained.lists list) ≡ times y (front ++ x ∷ rest) = ap (times y) split in
        let both = times-amid y x front rest in
        let was = chained.placed list y is_list in
        grind (arith, nat_tests, same, at, whole, both, was, there)
    by_place l y is false other =
        let was = chained.placed l y is in
        grind (arith, nat_tests, other, was, there)

-- INTO A LIST

pub chained_pushed : (old new : Chains) (place : ℕ → Option ℕ) (list x : ℕ) (chained : Chained old place) → list < old.heads → old.heads + x < length old.cells.items → place x ≡ None →
    new.cells.items ≡ set (set old.cells.items (old.heads + x) (cell_at old.cells.items list)) list x → new.heads ≡ old.heads → Chained new (moved place x (Some list))
chained_pushed old new place list x chained is_list inside none_yet set_to same_heads = record {
  lists = lists;
  follows = rw (same_heads, set_to) (λ l is. by_list l is (l == list) refl);
  placed = rw same_heads (λ l y is. by_place l y is (l == list) refl);
  inside = rw (same_heads, set_to, long) chained.inside;
  few = rw (set_to, long) chained.few;
}
  where
    cells : List ℕ
    cells = old.cells.items

    own : ℕ
    own = old.heads + x

    v : ℕ
    v = cell_at old.cells.items list

    long : length (set (set cells own v) list x) ≡ length cells
    long = length-set (set cells own v) list x ∙ length-set cells own v

    lists : ℕ → List ℕ
    lists l = if l == list then x ∷ chained.lists list else chained.lists l

    absent : (l : ℕ) → l < old.heads → times x (chained.lists l) ≡ 0
    absent l is = let was = chained.placed l x is in grind (arith, was, none_yet)

    -- any other cell tells what it told
    kept : (p : ℕ) → p ≢ list → p ≢ own → cell_at (set (set cells own v) list x) p ≡ cell_at cells p
    kept p apart_list apart_own = get_or-set_other (set cells own v) list p x none apart_list ∙ get_or-set_other cells own p v none apart_own

    kept_own : (l z : ℕ) → l < old.heads → 0 < times z (chained.lists l) → cell_at (set (set cells own v) list x) (old.heads + z) ≡ cell_at cells (old.heads + z)
    kept_own l z is some =
        kept (old.heads + z) (λ same. absurd (omega (arith, is_list, same)))
        (λ same. (let at : z ≡ x = omega (arith, same) in
        let none_there = absent l is in
        let none_z : times z (chained.lists l) ≡ 0 = ap (λ n. times n (chained.lists l)) at ∙ none_there in absurd (omega (arith, none_z, some))))

    by_list : (l : ℕ) → l < old.heads → (b : Bool) → (l == list) ≡ b → Follows (set (set cells own v) list x) old.heads l (lists l)
    by_list l is true same =
        let at : l ≡ list = grind (arith, nat_tests, same) in
        let within = chained.inside in
        let size = length-set cells own v in
        let is_front : lists l ≡ x ∷ chained.lists list = rw same refl in
        let first : cell_at (set (set cells own v) list x) list ≡ x = get_or-set_same (set cells own v) list x none (omega (arith, within, is_list, size)) in
        let next : cell_at (set (set cells own v) list x) own ≡ v =
        get_or-set_other (set cells own v) list own x none (λ same. absurd (omega (arith, is_list, same))) ∙ get_or-set_same cells own v none inside in
        rw (is_front, at) (
          first,
          omega (arith, long, inside),
          follows_moved cells (set (set cells own v) list x) old.heads list own (chained.lists list) (omega (arith, long)) next (λ z some. kept_own list z is_list some) (chained.follows list is_list),
        )
    by_list l is false other =
        let ne : l ≢ list = λ at. absurd (grind (arith, nat_tests, other, at)) in
        let is_own : lists l ≡ chained.lists l = rw other refl in
        rw is_own (follows_moved cells (set (set cells own v) list x) old.heads l l (chained.lists l) (omega (arith, long)) (kept l ne (λ same. absurd (omega (arith, is, same))))
        (λ z some. kept_own l z is some) (chained.follows l is))

    by_place : (l y : ℕ) → l < old.heads → (b : Bool) → (l == list) ≡ b → times y (lists l) ≡ times_in l (moved place x (Some list) y)
    by_place l y is true same =
        let at : l ≡ list = grind (arith, nat_tests, same) in
        let one = times-cons y x (chained.lists list) in
        let was = chained.placed list y is_list in
        grind (arith, nat_tests, same, at, one, was, none_yet)
    by_place l y is false other =
        let was = chained.placed l y is in
        grind (arith, nat_tests, other, was, none_yet)

-- ALL OF A LIST

-- a list that is nothing's place has nothing
pub empty_list : {chains : Chains} {place : ℕ → Option ℕ} (chained : Chained chains place) (list : ℕ) → list < chains.heads → ((x : ℕ) → place x ≢ Some list) → chained.lists list ≡ []
empty_list {chains} {place} chained list is_list never = none_in (chained.lists list) (λ x. by x (place x) refl)
  where
    by : (x : ℕ) (o : Option ℕ) → place x ≡ o → times x (chained.lists list) ≡ 0
    by x None at = let was = chained.placed list x is_list in grind (arith, was, at)
    by x (Some l) at =
        let was = chained.placed list x is_list in
        let ne : l ≢ list = λ same. never x (at ∙ ap (λ k. Some k) same) in
        grind (arith, nat_tests, was, at, ne)

pub chained_moved : (old new : Chains) (place : ℕ → Option ℕ) (from to : ℕ) (chained : Chained old place) → from < old.heads → to < old.heads → from ≢ to → ((x : ℕ) → place x ≢ Some to) →
    new.cells.items ≡ set (set old.cells.items to (cell_at old.cells.items from)) from none → new.heads ≡ old.heads → Chained new (all_moved place from to)
chained_moved old new place from to chained is_from is_to differ never set_to same_heads = record {
  lists = lists;
  follows = rw (same_heads, set_to) (λ l is. by_list l is (l == to) refl (l == from) refl);
  placed = rw same_heads (λ l y is. by_place l y is (l == to) refl (l == from) refl (place y) refl);
  inside = rw (same_heads, set_to, long) chained.inside;
  few = rw (set_to, long) chained.few;
}
  where
    cells : List ℕ
    cells = old.cells.items

    v : ℕ
    v = cell_at old.cells.items from

    cells' : List ℕ
    cells' = set (set old.cells.items to (cell_at old.cells.items from)) from none

    long : length (set (set cells to v) from none) ≡ length cells
    long = length-set (set cells to v) from none ∙ length-set cells to v

    lists : ℕ → List ℕ
    lists l = if l == to then chained.lists from else if l == from then [] else chained.lists l

    kept : (p : ℕ) → p ≢ to → p ≢ from → cell_at (set (set cells to v) from none) p ≡ cell_at cells p
    kept p apart_to apart_from = get_or-set_other (set cells to v) from p none none apart_from ∙ get_or-set_other cells to p v none apart_to

    own : (z : ℕ) → cell_at (set (set cells to v) from none) (old.heads + z) ≡ cell_at cells (old.heads + z)
    own z = kept (old.heads + z) (λ same. absurd (omega (arith, is_to, same))) (λ same. absurd (omega (arith, is_from, same)))

    by_list : (l : ℕ) → l < old.heads → (b : Bool) → (l == to) ≡ b → (c : Bool) → (l == from) ≡ c → Follows (set (set cells to v) from none) old.heads l (lists l)
    by_list l is true same c is_c =
        let at : l ≡ to = grind (arith, nat_tests, same) in
        let within = chained.inside in
        let is_list : lists l ≡ chained.lists from = rw same refl in
        let first : cell_at (set (set cells to v) from none) to ≡ v =
        get_or-set_other (set cells to v) from to none none (λ e. differ (sym e)) ∙ get_or-set_same cells to v none (omega (arith, within, is_to)) in
        rw (is_list, at) (follows_moved cells (set (set cells to v) from none) old.heads from to (chained.lists from) (omega (arith, long)) first (λ z some. own z) (chained.follows from is_from))
    by_list l is false other true same =
        let at : l ≡ from = grind (arith, nat_tests, same) in
        let within = chained.inside in
        let size = length-set cells to v in
        let is_list : lists l ≡ [] = rw (other, same) refl in
        rw (is_list, at) (get_or-set_same (set cells to v) from none none (omega (arith, within, is_from, size)))
    by_list l is false other false third =
        let ne_to : l ≢ to = λ at. absurd (grind (arith, nat_tests, other, at)) in
        let ne_from : l ≢ from = λ at. absurd (grind (arith, nat_tests, third, at)) in
        let is_list : lists l ≡ chained.lists l = rw (other, third) refl in
        rw is_list (follows_moved cells (set (set cells to v) from none) old.heads l l (chained.lists l) (omega (arith, long)) (kept l ne_to ne_from) (λ z some. own z) (chained.follows l is))

    by_place : (l y : ℕ) → l < old.heads → (b : Bool) → (l == to) ≡ b → (c : Bool) → (l == from) ≡ c → (o : Option ℕ) → place y ≡ o → times y (lists l) ≡ times_in l (all_moved place from to y)
    by_place l y is b is_b c is_c None at =
        let was = chained.placed l y is in
        let was_from = chained.placed from y is_from in
        grind (arith, nat_tests, is_b, is_c, was, was_from, at)
    by_place l y is b is_b c is_c (Some k) at =
        let was = chained.placed l y is in
        let was_from = chained.placed from y is_from in
        let ne : k ≢ to = λ same. never y (at ∙ ap (λ n. Some n) same) in
        grind (arith, nat_tests, is_b, is_c, was, was_from, at, ne, differ)

-- NEW ROWS

pub chained_blank : (chains : Chains) (n : ℕ) → chains.cells.items ≡ replicate n none → chains.heads ≤ n → n ≤ none → Chained chains (λ x. None)
chained_blank chains n are inside few = record {
  lists = λ l. [];
  follows = λ l is. rw are (blank n l);
  placed = λ l x is. refl;
  inside = rw (are, length-replicate n none) inside;
  few = rw (are, length-replicate n none) few;
}

-- a cell more
pub chained_wider : (old new : Chains) (place : ℕ → Option ℕ) (chained : Chained old place) → new.cells.items ≡ old.cells.items ++ none ∷ [] → new.heads ≡ old.heads →
    length old.cells.items < none → Chained new place
chained_wider old new place chained are same_heads few =
    let long : length (old.cells.items ++ none ∷ []) ≡ length old.cells.items + 1 = length-append old.cells.items (none ∷ []) in
    let within = chained.inside in
    record {
      lists = chained.lists;
      follows = rw (same_heads, are) (λ l is. follows_moved old.cells.items (old.cells.items ++ none ∷ []) old.heads l l (chained.lists l) (omega (arith, long)) (blank_more old.cells.items l)
          (λ z some. blank_more old.cells.items (old.heads + z)) (chained.follows l is));
      placed = rw same_heads chained.placed;
      inside = rw (same_heads, are, long) (omega (arith, within));
      few = rw (are, long) (omega (arith, few));
    }

-- the same cells
pub chained_same : (old new : Chains) (place : ℕ → Option ℕ) → new.cells.items ≡ old.cells.items → new.heads ≡ old.heads → Chained old place → Chained new place
chained_same old new place are same_heads chained = record {
  lists = chained.lists;
  follows = rw (same_heads, are) chained.follows;
  placed = rw same_heads chained.placed;
  inside = rw (same_heads, are) chained.inside;
  few = rw are chained.few;
}
