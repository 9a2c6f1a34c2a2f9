-- Steps of which the first fault counts.
use Rattle.std.specs.Prelude.{◌≡◌, ◌⊎◌, Result, Ok, Err, MatchResult}

-- the next step, unless this one has a fault
infixl 10 ◌>>=◌
abbrev pub ◌>>=◌ : {A B E : Type 0} → Result A E → (A → Result B E) → Result B E
Ok x >>= next = next x
Err e >>= next = Err e

-- the answer is the expected one, or memory was refused where it was wanted
abbrev pub GivesUnless : {A E : Type 0} → E → Type 0 → Result A E → Result A E → Type 0
GivesUnless refused wanted answer expected =
    MatchResult answer (λ x. expected ≡ Ok x) (λ e. ((e ≡ refused) × wanted) ⊎ (expected ≡ Err e))
