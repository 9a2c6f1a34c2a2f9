-- The way to a number in its list.
use Rattle.std.proofs.Common.{◌≡◌, ◌≢◌, ◌≤◌, ◌<◌, ◌+◌, ◌∷◌, ◌++◌, [], ℕ, suc, List, Option, Some, None, length, refl, ap, ◌∙◌, sym, subst, append_assoc, arith}
use Rattle.std.specs.Prelude.{get_or}
use Rattle.std.proofs.lemmas.Bool.Decides.{nat_tests}
use Rattle.chains.specs.declared.chains.Chains.{Chains}
use Rattle.chains.specs.Chained.{Chained, Follows, cell_at, none, steps}
use Rattle.chains.specs.Before.{IsBefore, IsThere, last_cell}
use Rattle.chains.specs.Following.{cell_read, follows_one, short, steps_are, times, times-append, times-cons}
use Rattle.chains.specs.ChainedLaws.{once_in, there_once}

-- a cell on the way: these numbers were passed, and those are still to come, with the one that is looked for
pub record IsOnWay (chains : Chains) (list x cell : ℕ) : Type 0 where
  pub there : IsThere chains list x
  pub front : List ℕ
  pub rest : List ℕ
  pub split : there.chained.lists list ≡ front ++ rest
  pub at : cell ≡ last_cell chains.heads list front
  pub follows : Follows chains.cells.items chains.heads cell rest
  pub ahead : times x rest ≡ 1
  pub inside : cell < length chains.cells.items

pub way_begins : (chains : Chains) (list x : ℕ) → IsThere chains list x → IsOnWay chains list x list
way_begins chains list x there =
    let within = there.chained.inside in
    let is_list = there.is_list in
    record {
      there = there;
      front = [];
      rest = there.chained.lists list;
      split = refl;
      at = refl;
      follows = there.chained.follows list is_list;
      ahead = there_once there.chained list x is_list there.there;
      inside = omega (arith, within, is_list);
    }

-- what the next number is
pub record HasNext (rest : List ℕ) (v : ℕ) : Type 0 where
  pub more : List ℕ
  pub is : rest ≡ v ∷ more

next_of : (chains : Chains) (x cell v : ℕ) (rest : List ℕ) → Follows chains.cells.items chains.heads cell rest → times x rest ≡ 1 → v ≡ cell_at chains.cells.items cell → HasNext rest v
next_of chains x cell v [] follows ahead read = absurd (omega (arith, ahead))
next_of chains x cell v (y ∷ ys) follows ahead read = let same : y ≡ v = sym follows.0 ∙ sym read in record { more = ys; is = ap (λ n. n ∷ ys) same }

module _ (chains : Chains) (list x cell v : ℕ) (way : IsOnWay chains list x cell) (read : v ≡ get_or chains.cells.items cell v) where
  told : v ≡ cell_at chains.cells.items cell
  told = cell_read chains.cells.items cell v way.inside read

  next : HasNext way.rest v
  next = next_of chains x cell v way.rest way.follows way.ahead told

  here : Follows chains.cells.items chains.heads cell (v ∷ next.more)
  here = subst (Follows chains.cells.items chains.heads cell) next.is way.follows

  pub next_inside : chains.heads + v < length chains.cells.items
  next_inside = here.1

  pub way_goes_on : v ≢ x → IsOnWay chains list x (chains.heads + v)
  way_goes_on ne = record {
    there = way.there;
    front = way.front ++ v ∷ [];
    rest = next.more;
    split = way.split ∙ ap (λ xs. way.front ++ xs) next.is ∙ sym (append_assoc way.front (v ∷ []) next.more);
    at = sym (last_push way.front list);
    follows = here.2;
    ahead = (let one = times-cons x v next.more in let all = sym (ap (times x) next.is) ∙ way.ahead in grind (arith, nat_tests, one, all, ne));
    inside = next_inside;
  }
    where
      last_push : (front : List ℕ) (p : ℕ) → last_cell chains.heads p (front ++ v ∷ []) ≡ chains.heads + v
      last_push [] p = refl
      last_push (y ∷ ys) p = last_push ys (chains.heads + y)

  pub way_shortens : v ≢ x → steps (length chains.cells.items) chains.cells.items chains.heads (chains.heads + v) < steps (length chains.cells.items) chains.cells.items chains.heads cell
  way_shortens ne =
      let cells = chains.cells.items in
      let few = way.there.chained.few in
      let once : (y : ℕ) → times y way.rest ≤ 1 = λ y. (
      let all = subst (λ xs. times y xs ≤ 1) way.split (once_in way.there.chained list y way.there.is_list) in
      let both = times-append y way.front way.rest in omega (arith, all, both)) in
      let le = short cells chains.heads cell way.rest once way.follows in
      let long : length way.rest ≡ suc (length next.more) = ap length next.is in
      let before = steps_are (length cells) cells chains.heads cell way.rest few le way.follows in
      let after = steps_are (length cells) cells chains.heads (chains.heads + v) next.more few (omega (arith, le, long)) here.2 in
      omega (arith, before, after, long)

  pub way_ends : v ≡ x → IsBefore chains list x cell
  way_ends same place chained there =
      let is_list = way.there.is_list in
      let one : way.there.chained.lists list ≡ chained.lists list =
      follows_one chains.cells.items chains.heads list _ _ chained.few (way.there.chained.follows list is_list) (chained.follows list is_list) in
      (way.front, next.more, sym one ∙ way.split ∙ ap (λ xs. way.front ++ xs) next.is ∙ ap (λ n. way.front ++ n ∷ next.more) same, way.at)
