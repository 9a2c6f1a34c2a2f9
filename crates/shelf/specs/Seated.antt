-- Slots, in each of which something is, or nothing.
use Rattle.std.specs.Prelude.{ℕ, List, [], ◌∷◌, Bool, true, false, Option, Some, None, refl, if◌then◌else◌}
use Rattle.std.specs.Coded.{Coded, code_by, coded×, coded_ℕ, coded_list, coded_option}
use Rattle.shelf.specs.declared.shelf.Slot.{Slot}

-- what is in each, and for how many more there is memory
pub record Seats (K V : Type 0) : Type 0 where
  pub items : List (Option (Slot K V))
  pub room : ℕ

abbrev pub slot_code : {K V : Type 0} → Coded K → Coded V → Coded (Slot K V)
slot_code {K} {V} key kept = code_by (K × V) (coded× key kept) (λ s. (s.key, s.kept)) (λ p. record { key = p.0; kept = p.1 }) (λ _. refl)

abbrev pub seats_code : {K V : Type 0} → Coded K → Coded V → Coded (Seats K V)
seats_code {K} {V} key kept =
    code_by (List (Option (Slot K V)) × ℕ) (coded× (coded_list (coded_option (slot_code key kept))) coded_ℕ) (λ s. (s.items, s.room)) (λ p. record { items = p.0; room = p.1 }) (λ _. refl)

-- what is in the cells that are full
abbrev pub seen : {K V : Type 0} → List Bool → List (Slot K V) → List (Option (Slot K V))
seen [] cs = []
seen (b ∷ bs) [] = []
seen (b ∷ bs) (c ∷ cs) = (if b then Some c else None) ∷ seen bs cs
