-- The changes that stay are what is left.
use Rattle.std.proofs.Common.{◌≡◌, ℕ, List, [], ◌∷◌, ◌++◌, Bool, true, false, append_assoc, refl, ap, ◌∙◌, sym}
use Rattle.std.specs.Prelude.{not, if◌then◌else◌}
use Rattle.std.proofs.lemmas.List.{append-nil}
use Rattle.consent.specs.History.{Event}
use Rattle.shortening.specs.Left.{left_of}
use Rattle.shortening.specs.Shortened.{is_needless, shortened}
use Rattle.shortening.specs.Steps.{keeps_of, picked}

module _ (m : ℕ) (history : List Event) where
  abbrev goes : Event → List Event → Bool
  goes e later = is_needless history m e.moment e.change later

  -- those of the events that stay
  abbrev stay : List Event → List Event
  stay later = picked (keeps_of m history later) later

  either : (b : Bool) (xs : List Event) (e : Event) → (if not b then e ∷ xs else xs) ≡ (if b then xs else e ∷ xs)
  either true xs e = refl
  either false xs e = refl

  picked_left : (later : List Event) → stay later ≡ left_of goes later []
  picked_left [] = refl
  picked_left (e ∷ later) =
      either (goes e later) (stay later) e
      ∙ ap (λ xs. if goes e later then xs else e ∷ xs) (picked_left later)
      ∙ ap (λ es. if goes e es then left_of goes later [] else e ∷ left_of goes later []) (sym (append-nil later))

  -- of all the changes
  pub picked_shortened : stay history ≡ shortened m history
  picked_shortened = picked_left history

  -- one after the other: what stays goes behind those so far
  module _ (e : Event) (later so_far all : List Event) (whole : so_far ++ stay (e ∷ later) ≡ all) where
    pub picked-stays : not (is_needless history m e.moment e.change later) ≡ true → (so_far ++ e ∷ []) ++ stay later ≡ all
    picked-stays stays =
        append_assoc so_far (e ∷ []) (stay later) ∙ ap (λ b. so_far ++ (if b then e ∷ stay later else stay later)) (sym stays) ∙ whole

    pub picked-goes : not (is_needless history m e.moment e.change later) ≡ false → so_far ++ stay later ≡ all
    picked-goes go = ap (λ b. so_far ++ (if b then e ∷ stay later else stay later)) (sym go) ∙ whole
