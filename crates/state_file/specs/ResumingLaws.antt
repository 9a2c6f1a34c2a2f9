-- What was right under the rules that a file tells. For proofs alone.
use Rattle.std.proofs.Common.{inl, inr, ℕ, List, [], ◌∷◌, ◌++◌}
use Rattle.state_file.specs.Names.{RegistryRecord, Event}
use Rattle.endpoints.specs.Bounded.{AllRight}
use Rattle.endpoints.specs.Widening.{IsWider}
use Rattle.endpoints.specs.WideningLaws.{all_right-wider}
use Rattle.state_file.specs.Resuming.{IsRight, WasRight}
use Rattle.state_file.specs.Telling.{TellsRules, rules_of}

-- what was right under rules that were told is right under these
pub right_now : (left : List ℕ) (history : List Event) (registry : RegistryRecord) → ((old : RegistryRecord) → TellsRules left (rules_of old) → IsWider old registry) →
    WasRight left history → IsRight registry left history
right_now left history registry wider (inl none) = inl none
right_now left history registry wider (inr told) = inr (all_right-wider told.0 registry (wider told.0 told.1) [] history told.2)

-- what is right is right as far as it went
pub right_before : (rules : RegistryRecord) (start before later : List Event) → AllRight rules start (before ++ later) → AllRight rules start before
right_before rules start [] later all = tt
right_before rules start (x ∷ before) later all = (all.0, right_before rules (start ++ x ∷ []) before later all.1)
