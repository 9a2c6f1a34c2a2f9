-- A number out of its list.
use Rattle.std.proofs.Common.{◌≡◌, ◌<◌, ◌+◌, ◌∷◌, ◌++◌, ℕ, List, Option, Some, None, length, set, ap, ◌∙◌, subst, arith}
use Rattle.chains.specs.declared.chains.Chains.{Chains}
use Rattle.chains.specs.Chained.{Chained, Follows, cell_at, moved}
use Rattle.chains.specs.Before.{IsBefore, IsThere, last_cell}
use Rattle.chains.specs.Following.{follows_cell, times, times-append, LastCell, last_of}
use Rattle.chains.specs.Following.LastCell.{Own, Of}
use Rattle.chains.specs.ChainedLaws.{there_once}
use Rattle.chains.proofs.Moving.{chained_without}

-- what is in a list has a cell
pub has_cell : (chains : Chains) (list x : ℕ) → IsThere chains list x → chains.heads + x < length chains.cells.items
has_cell chains list x is =
    let once = there_once is.chained list x is.is_list is.there in
    follows_cell chains.cells.items chains.heads list (is.chained.lists list) x (is.chained.follows list is.is_list) (omega (arith, once))

-- the cell before it is one
pub before_cell : (chains : Chains) (list x cell : ℕ) → IsThere chains list x → IsBefore chains list x cell → cell < length chains.cells.items
before_cell chains list x cell is before =
    let at = before is.place is.chained is.there in
    by at.0 at.1 at.3 (subst (Follows chains.cells.items chains.heads list) at.2 (is.chained.follows list is.is_list)) (last_of chains.heads list at.0)
  where
    by : (front rest : List ℕ) → cell ≡ last_cell chains.heads list front → Follows chains.cells.items chains.heads list (front ++ x ∷ rest) → LastCell chains.heads list front → cell < length chains.cells.items
    by front rest at follows (Own none_there) =
        let within = is.chained.inside in
        let is_list = is.is_list in
        let own : cell ≡ list = at ∙ ap (last_cell chains.heads list) none_there in
        omega (arith, within, is_list, own)
    by front rest at follows (Of w last some) =
        let both = times-append w front (x ∷ rest) in
        let inside = follows_cell chains.cells.items chains.heads list (front ++ x ∷ rest) w follows (omega (arith, both, some)) in
        omega (arith, at, last, inside)

pub removes : (old new : Chains) (place : ℕ → Option ℕ) (list x cell : ℕ) (chained : Chained old place) → list < old.heads → place x ≡ Some list → IsBefore old list x cell →
    new.cells.items ≡ set old.cells.items cell (cell_at old.cells.items (old.heads + x)) → new.heads ≡ old.heads → Chained new (moved place x None)
removes old new place list x cell chained is_list there before set_to same_heads =
    let at = before place chained there in
    chained_without old new place list at.0 x at.1 chained is_list there at.2
    (set_to ∙ ap (λ q. set old.cells.items q (cell_at old.cells.items (old.heads + x))) at.3) same_heads
