-- Lists of numbers in a row of cells.
use Rattle.std.specs.Prelude.{◌≡◌, ◌+◌, ◌-◌, ◌<◌, ◌≤◌, ◌==◌, ℕ, zero, suc, List, [], ◌∷◌, ◌++◌, Option, Some, None, if◌then◌else◌, count_by, get_or, length, min, nat_eq}
use Rattle.chains.specs.declared.chains.Chains.{Chains}

-- what a cell tells that tells no number
abbrev pub none : ℕ
none = 4294967295

-- what the cell tells
abbrev pub cell_at : List ℕ → ℕ → ℕ
cell_at cells cell = get_or cells cell none

-- From the cell on the numbers follow one another: each has a cell of its own behind the heads, which tells the next, and the last one's tells none.
abbrev pub Follows : List ℕ → (heads cell : ℕ) → List ℕ → Type 0
Follows cells heads cell [] = cell_at cells cell ≡ none
Follows cells heads cell (x ∷ xs) = (cell_at cells cell ≡ x) × (heads + x < length cells) × Follows cells heads (heads + x) xs

-- once in the list that is its place, and in no other
abbrev pub times_in : ℕ → Option ℕ → ℕ
times_in list None = 0
times_in list (Some l) = if l == list then 1 else 0

-- The row has lists: each number is once in the list that is its place, and in no other.
pub record Chained (chains : Chains) (place : ℕ → Option ℕ) : Type 0 where
  pub lists : ℕ → List ℕ
  pub follows : (list : ℕ) → list < chains.heads → Follows chains.cells.items chains.heads list (lists list)
  pub placed : (list x : ℕ) → list < chains.heads → count_by (nat_eq x) (lists list) ≡ times_in list (place x)
  pub inside : chains.heads ≤ length chains.cells.items
  pub few : length chains.cells.items ≤ none

-- there are such places
pub record IsRow (chains : Chains) : Type 0 where
  pub place : ℕ → Option ℕ
  pub chained : Chained chains place

-- the list is one of them
abbrev pub IsList : Chains → ℕ → Type 0
IsList chains list = (list < chains.heads) × (chains.heads ≤ length chains.cells.items)

-- the number has a cell
abbrev pub HasCell : Chains → ℕ → Type 0
HasCell chains x = chains.heads + x < length chains.cells.items

-- so many numbers more can have one
abbrev pub room : Chains → ℕ
room chains = min (chains.cells.cap - chains.cells.len) (none - chains.cells.len)

-- as it was, but for this number, whose place is another now
abbrev pub moved : (ℕ → Option ℕ) → ℕ → Option ℕ → ℕ → Option ℕ
moved place x to y = if x == y then to else place y

-- the place, or the other one if it is the first
abbrev pub place_moved : (from to : ℕ) → Option ℕ → Option ℕ
place_moved from to None = None
place_moved from to (Some l) = if l == from then Some to else Some l

-- what was in the one list is in the other
abbrev pub all_moved : (ℕ → Option ℕ) → (from to : ℕ) → ℕ → Option ℕ
all_moved place from to x = place_moved from to (place x)

-- the first of the list
abbrev pub first_of : List ℕ → Option ℕ
first_of [] = None
first_of (x ∷ xs) = Some x

-- this is what comes behind the number, in whichever list it is
abbrev pub IsBehind : {chains : Chains} {place : ℕ → Option ℕ} → Chained chains place → ℕ → Option ℕ → Type 0
IsBehind {chains} chained x next =
    (list : ℕ) (front rest : List ℕ) → list < chains.heads → chained.lists list ≡ front ++ x ∷ rest → next ≡ first_of rest

-- how many numbers follow from the cell on, at most n
abbrev pub steps : ℕ → List ℕ → (heads cell : ℕ) → ℕ
steps zero cells heads cell = 0
steps (suc n) cells heads cell = if cell_at cells cell == none then 0 else suc (steps n cells heads (heads + cell_at cells cell))

-- how far it is to the end of a list, from the number on
abbrev pub to_go : Chains → Option ℕ → ℕ
to_go chains None = 0
to_go chains (Some x) = suc (steps (length chains.cells.items) chains.cells.items chains.heads (chains.heads + x))

-- the same lists and cells, of which they tell otherwise
pub record IsShaped (old new : Chains) : Type 0 where
  pub heads : new.heads ≡ old.heads
  pub cells : length new.cells.items ≡ length old.cells.items
  pub room : room new ≡ room old

-- how many numbers the list has, at most as many as there are cells
abbrev pub left : Chains → ℕ → ℕ
left chains list = steps (length chains.cells.items) chains.cells.items chains.heads list
