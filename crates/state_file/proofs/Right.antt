-- What is right where a list tells it is made again.
use Rattle.std.proofs.Common.{◌≡◌, inl, inr, ℕ, List, [], ◌∷◌, ◌++◌, refl, sym, ap, ◌∙◌, subst, append_assoc}
use Rattle.endpoints.specs.Bounded.{IsRightChange}
use Rattle.endpoints.specs.declared.redo.RedoFault.TheVariants.{NotRight}
use Rattle.state_file.proofs.Names.{append-nil, recovered, last_moment, AllRight, AreTold, AreTold-split, Event, Hosting, HookFact, Outset, RefusesMaking, RegistryRecord, on_bytes}
use Rattle.consent.specs.History.{Change}
use Rattle.state_file.specs.Resuming.{RefusesChange}
use Rattle.state_file.specs.StandingLaws.{one_told}
use Rattle.state_file.specs.declared.fault.StateFault.TheVariants.{Follows}

-- each change of a right list is right behind those before it
right_at : (rules : RegistryRecord) (start before later : List Event) (e : Event) → AllRight rules start (before ++ e ∷ later) → IsRightChange rules (start ++ before) e.change
right_at rules start [] later e all = subst (λ (l : List Event). IsRightChange rules l e.change) (sym (append-nil start)) all.0
right_at rules start (x ∷ before) later e all =
    subst (λ (l : List Event). IsRightChange rules l e.change) (append_assoc start (x ∷ []) before) (right_at rules (start ++ x ∷ []) before later e all.1)

module _ {H : Type 0} (hosting : Hosting H) (outset : Outset H) where
  change_right : (batches : List (List ℕ)) (facts : List Event) → AreTold batches facts → AllRight outset.rules [] facts → RefusesChange hosting outset batches NotRight → ⊥
  change_right batches facts told right refused =
      let before = refused.2 in
      let behind = refused.3 in
      let e = refused.4 in
      let next = refused.7 in
      let parts = AreTold-split refused.0 refused.1 facts (subst (λ (bs : List (List ℕ)). AreTold bs facts) refused.5 told) in
      let first : parts.0 ≡ before ++ e ∷ behind = one_told refused.0 parts.0 (before ++ e ∷ behind) parts.2 refused.6 in
      let all : facts ≡ before ++ e ∷ (behind ++ parts.1) = parts.4 ∙ ap (λ (es : List Event). es ++ parts.1) first ∙ append_assoc before (e ∷ behind) parts.1 in
      let here : IsRightChange outset.rules before e.change = right_at outset.rules [] before (behind ++ parts.1) e (subst (λ (es : List Event). AllRight outset.rules [] es) all right) in
      next.4.1 refl outset before (last_moment 0 before) next.1 (subst (λ (ch : Change). IsRightChange outset.rules before ch) (sym next.3) here)

  pub right_is_made : (left : List ℕ) (hooks : List HookFact) (facts : List Event) → AreTold (recovered left) facts → AllRight outset.rules [] facts →
      RefusesMaking hosting (on_bytes left outset hooks) (Follows NotRight) → ⊥
  right_is_made left hooks facts told right (inl (inl rules)) = absurd rules.2.2
  right_is_made left hooks facts told right (inl (inr changes)) = change_right (recovered left) facts told right changes.1
  right_is_made left hooks facts told right (inr (inl hook)) = absurd hook.2.6
  right_is_made left hooks facts told right (inr (inr full)) = (let same = full.0 in absurd cc)
