-- Lists of dated changes, each of which may stand where it does.
use Rattle.std.specs.Prelude.{◌≡◌, ℕ, List, [], ◌∷◌, ◌++◌, Bool, false, None, unwrap_or, option_map}
use Rattle.consent.specs.History.{Event, CanStand, is_code, opener, code_terms}

-- each of the events may stand after those before it
abbrev pub AllStand : List Event → List Event → Type 0
AllStand before [] = Unit {0}
AllStand before (e ∷ later) = CanStand before e.moment e.change × AllStand (before ++ e ∷ []) later

-- what opened the family is a code
abbrev pub is_opened_by_code : List Event → ℕ → Bool
is_opened_by_code history family = unwrap_or (option_map (λ g. is_code g.kind) (opener history family)) false

-- where what opened a family is no code, no code is of it
abbrev pub CodesOpen : List Event → Type 0
CodesOpen history = (family : ℕ) → is_opened_by_code history family ≡ false → code_terms history family ≡ None
