-- A state file in which rules are told.
use Rattle.std.proofs.Common.{◌≡◌, ◌↔◌, inl, inr, ℕ, zero, List, [], ◌∷◌, ◌++◌, Bool, true, false, Option, None, Some, refl, sym, ap, ◌∙◌, subst, arith}
use Rattle.std.specs.Option.{option_or}
use Rattle.state_file.proofs.Names.{Event, one_rules, RulesFact, RulesFit, rules_fields, rules_spelling, AreToldBehind, StandFor, until_of, AreTold-rules, until_of-append, IsOfRules, Tell, last_rules}
use Rattle.state_file.proofs.Names.{rules_in, last_rules-push}
use Rattle.state_file.specs.StandingLaws.{StandFor-beside}

-- what does not begin with a byte 0 tells no rules
no_rules : (batch : List ℕ) → (rules_in batch ≡ Some batch → ⊥) → rules_in batch ≡ None
no_rules (zero ∷ fields) not = absurd (not refl)
no_rules _ not = refl

-- the last rules among some batches and one more
pub told_item : (batches : List (List ℕ)) (batch : List ℕ) → rules_in batch ≡ Some batch → last_rules (batches ++ batch ∷ []) ≡ Some batch
told_item batches batch of_rules = last_rules-push batches batch ∙ ap (λ (o : Option (List ℕ)). option_or o (last_rules batches)) of_rules

pub untold_item : (batches : List (List ℕ)) (batch : List ℕ) → (rules_in batch ≡ Some batch → ⊥) → last_rules (batches ++ batch ∷ []) ≡ last_rules batches
untold_item batches batch not = last_rules-push batches batch ∙ ap (λ (o : Option (List ℕ)). option_or o (last_rules batches)) (no_rules batch not)

-- RULES BEHIND BATCHES

pub told_behind : (told : Bool) (old new : List (List ℕ)) (rules : RulesFact) (bytes : List ℕ) → IsOfRules bytes rules → (told ≡ true → Tell old rules) → (told ≡ true → new ≡ old) →
    (told ≡ false → new ≡ old ++ bytes ∷ []) → AreToldBehind old rules new
told_behind true old new rules bytes of tells same added = inl (tells refl, same refl)
told_behind false old new rules bytes of tells same added = inr (of.0, added refl ∙ ap (λ (b : List ℕ). old ++ b ∷ []) of.1)

module _ (old new : List (List ℕ)) (rules : RulesFact) where
  -- then they are told
  pub tells_behind : AreToldBehind old rules new → Tell new rules
  tells_behind (inl same) = subst (λ (bs : List (List ℕ)). Tell bs rules) (sym same.1) same.0
  tells_behind (inr more) = (rules_spelling rules, ap last_rules more.1 ∙ last_rules-push old (rules_spelling rules), (more.0, refl))

  -- and the batches stand for the same
  pub stand_behind : (history : List Event) → AreToldBehind old rules new → StandFor old history → StandFor new history
  stand_behind history (inl same) stands = subst (λ (bs : List (List ℕ)). StandFor bs history) (sym same.1) stands
  stand_behind history (inr more) stands =
      subst (λ (bs : List (List ℕ)). StandFor bs history) (sym more.1) (StandFor-beside old (rules_spelling rules ∷ []) history (AreTold-rules (rules_fields rules)) stands)

  -- and tell the same moment
  pub until_behind : AreToldBehind old rules new → until_of new ≡ until_of old
  until_behind (inl same) = ap until_of same.1
  until_behind (inr more) = let all = until_of-append old (rules_spelling rules ∷ []) in rw more.1 (omega (arith, all))

-- WHAT A BATCH TELLS

-- rules of one spelling are the same
pub told_spelled : (batch : List ℕ) (told now : RulesFact) → IsOfRules batch told → RulesFit told → RulesFit now → ((others : RulesFact) → IsOfRules batch others → others ≡ told) →
    (rules_spelling told ≡ rules_spelling now) ↔ IsOfRules batch now
told_spelled batch told now tells fit fits one = (
  λ same. subst (λ (r : RulesFact). IsOfRules batch r) (one_rules told now fit fits same) tells,
  λ others. ap rules_spelling (sym (one now others)),
)
