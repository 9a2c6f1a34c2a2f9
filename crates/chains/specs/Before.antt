-- Beside Chained: only this crate's own parts and their proofs cite this, but for IsThere.
use Rattle.std.specs.Prelude.{◌≡◌, ◌+◌, ◌<◌, ℕ, List, [], ◌∷◌, ◌++◌, Option, Some}
use Rattle.chains.specs.declared.chains.Chains.{Chains}
use Rattle.chains.specs.Chained.{Chained}

-- the number is in the list
pub record IsThere (chains : Chains) (list x : ℕ) : Type 0 where
  pub place : ℕ → Option ℕ
  pub chained : Chained chains place
  pub there : place x ≡ Some list
  pub is_list : list < chains.heads

-- the cell of the last of these numbers, or the one before them all
abbrev pub last_cell : (heads cell : ℕ) → List ℕ → ℕ
last_cell heads cell [] = cell
last_cell heads cell (x ∷ xs) = last_cell heads (heads + x) xs

-- the cell tells the number: it is that of what stands before it in the list
abbrev pub IsBefore : Chains → (list x cell : ℕ) → Type 0
IsBefore chains list x cell =
    (place : ℕ → Option ℕ) (chained : Chained chains place) → place x ≡ Some list →
    (front : List ℕ) × (rest : List ℕ) × (chained.lists list ≡ front ++ x ∷ rest) × (cell ≡ last_cell chains.heads list front)
