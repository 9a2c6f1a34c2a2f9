-- Beside Left: only the contracts of this crate's own parts and their proofs cite this, no public clause.
use Rattle.std.specs.Prelude.{◌≡◌, ℕ, List, [], ◌∷◌, Bool, false, nat_eq, Option, Some, unwrap_or, option_map}
use Rattle.std.specs.Option.{option_or}
use Rattle.std.specs.Map.{lookup}
use Rattle.consent.specs.History.{Event, Change, Terms, code_terms, event_at}
use Rattle.narrowing.specs.Left.{Under, do_go_beyond}

-- whether the first code of the family goes beyond the rules, if the events give one
abbrev pub is_code_beyond : Under → List Event → ℕ → Option Bool
is_code_beyond under events family = option_map (λ (terms : Terms). do_go_beyond under (Some terms)) (code_terms events family)

-- this is noted of each family
abbrev pub TellsCodes : Under → List Event → List (ℕ × Bool) → Type 0
TellsCodes under events codes = (family : ℕ) → lookup (nat_eq family) codes ≡ is_code_beyond under events family

-- the code that the change gives is noted where the family has none
abbrev pub Notes : Under → Change → List (ℕ × Bool) → List (ℕ × Bool) → Type 0
Notes under change old new =
    (family : ℕ) → lookup (nat_eq family) new ≡ option_or (lookup (nat_eq family) old) (is_code_beyond under (event_at 0 change ∷ []) family)

-- what is noted of the family
abbrev pub beyond_by : List (ℕ × Bool) → ℕ → Bool
beyond_by codes family = unwrap_or (lookup (nat_eq family) codes) false
