-- The first number of a list.
use Rattle.std.proofs.Common.{◌≡◌, ◌≢◌, ◌<◌, ◌+◌, ◌∷◌, [], ℕ, List, Option, Some, None, length, set, refl, ap, ◌∙◌, sym, subst, arith}
use Rattle.std.specs.Prelude.{get_or, IfNone}
use Rattle.std.proofs.lemmas.Bool.Decides.{nat_tests}
use Rattle.chains.specs.declared.chains.Chains.{Chains}
use Rattle.chains.specs.Chained.{Chained, Follows, cell_at, first_of, moved, none, times_in}
use Rattle.chains.specs.Following.{cell_read, first_told, headed, unheaded, Headed, times, times-cons}
use Rattle.chains.specs.ChainedLaws.{in_place}
use Rattle.chains.proofs.Moving.{chained_without}

pub none_given : {X : Type 0} {P : Type 0} (o : Option X) → P → IfNone o P
none_given None p = p
none_given (Some x) p = tt

module _ (old : Chains) (place : ℕ → Option ℕ) (list v : ℕ) (r : Option ℕ) (chained : Chained old place) (is_list : list < old.heads) (read : v ≡ get_or old.cells.items list v)
    (never : v ≡ none → r ≡ None) (gives : v ≢ none → r ≡ Some v) where
  -- what is told is the first of the list
  told : r ≡ first_of (chained.lists list)
  told =
      let within = chained.inside in
      let is : v ≡ cell_at old.cells.items list = cell_read old.cells.items list v (omega (arith, within, is_list)) read in
      first_told old.cells.items old.heads list (chained.lists list) r chained.few (chained.follows list is_list) (rw is at never) (rw is at gives)

  head : (x : ℕ) → r ≡ Some x → Headed (chained.lists list) x
  head x was = headed (chained.lists list) x (sym told ∙ was)

  pub head_cell : (x : ℕ) → r ≡ Some x → old.heads + x < length old.cells.items
  head_cell x was =
      let is = head x was in
      let follows : Follows old.cells.items old.heads list (x ∷ is.rest) = subst (Follows old.cells.items old.heads list) is.is (chained.follows list is_list) in
      follows.1

  pub pops_first : (new : Chains) (x : ℕ) → r ≡ Some x → new.cells.items ≡ set old.cells.items list (cell_at old.cells.items (old.heads + x)) → new.heads ≡ old.heads →
      (place x ≡ Some list) × Chained new (moved place x None)
  pops_first new x was set_to same_heads =
      let is = head x was in
      let own = times-cons x x is.rest in
      let whole = ap (times x) is.is in
      let there : place x ≡ Some list = in_place list x (times x (chained.lists list)) (place x) (chained.placed list x is_list) (grind (arith, nat_tests, own, whole)) in
      (there, chained_without old new place list [] x is.rest chained is_list there is.is set_to same_heads)

  pub pops_none : r ≡ None → ((x : ℕ) → place x ≢ Some list) × Chained old place
  pops_none was = (
    λ x there. (
        let empty = unheaded (chained.lists list) (sym told ∙ was) in
        let is = chained.placed list x is_list in
        let no_times : times x (chained.lists list) ≡ 0 = ap (times x) empty in
        absurd (grind (arith, nat_tests, is, no_times, there))),
    chained,
  )
