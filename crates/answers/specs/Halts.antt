-- What the first points of a list come to.
use Rattle.std.specs.Prelude.{◌≡◌, Result, Ok, Err}
use Rattle.answers.specs.declared.halt.Halt.{Halt}
use Rattle.answers.specs.declared.halt.Halt.TheVariants.{Refuse, NoMemory}
use Rattle.answers.specs.Outcomes.{Outcome, refuse}

-- one of the points answers with an error, or memory was refused on the way
abbrev pub Halts : Halt → Outcome → Type 0
Halts (Refuse error) points = points ≡ refuse error
Halts NoMemory points = Unit {0}

-- the points lead on to `next`, or halt
abbrev pub LeadsOrHalts : {A : Type 0} → Result A Halt → Outcome → (A → Outcome) → Type 0
LeadsOrHalts (Ok x) points next = points ≡ next x
LeadsOrHalts (Err halt) points next = Halts halt points

-- and so it is of whatever comes next, to which the answer means this
abbrev pub LeadsOnWith : {A B : Type 0} → Result A Halt → ((B → Outcome) → Outcome) → (A → B) → Type 0
LeadsOnWith {B = B} result points meaning = (next : B → Outcome) → LeadsOrHalts result (points next) (λ x. next (meaning x))
