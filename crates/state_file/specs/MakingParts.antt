-- Beside Making: only the contracts of this crate's own parts and their proofs cite this, no public clause.
use Rattle.std.specs.Prelude.{◌≡◌, ◌⊎◌, ◌≤◌, ◌^◌, ◌++◌, ℕ, List, [], ◌∷◌, length}
use Rattle.consent.specs.History.{Event}
use Rattle.state_file.specs.Names.{HaveSpelling, batch_spelling, RulesFact, RulesFit, rules_spelling, StateFault}
use Rattle.state_file.specs.Telling.{Tell}
use Rattle.state_file.specs.declared.fault.StateFault.TheVariants as state

-- the rules stand behind the old batches, unless these told just them
abbrev pub AreToldBehind : List (List ℕ) → RulesFact → List (List ℕ) → Type 0
AreToldBehind old rules new =
    (Tell old rules × (new ≡ old)) ⊎ (RulesFit rules × (new ≡ old ++ rules_spelling rules ∷ []))

-- the dated changes stand behind the old batches, as one batch, if there are any
abbrev pub AreAdded : List Event → List (List ℕ) → List (List ℕ) → Type 0
AreAdded facts old new = ((facts ≡ []) × (new ≡ old)) ⊎ (HaveSpelling facts × (new ≡ old ++ batch_spelling facts ∷ []))

-- why they do not: memory was refused, or they are too long
abbrev pub IsUnadded : List Event → StateFault → Type 0
IsUnadded facts state.Memory = Unit {0}
IsUnadded facts state.Full = 2 ^ 32 ≤ length (batch_spelling facts)
IsUnadded facts _ = ⊥
