-- Laws of what steps lead on to, and of fronts of what happened.
use Rattle.std.proofs.Common.{◌≡◌, ◌⊎◌, inl, inr, ℕ, List, ◌++◌, [], refl, sym, ap, ◌∙◌, append_assoc, append-nil, arith}
use Rattle.std.proofs.Math.Nat.{max-eq_left, max-eq_right}
use Rattle.std.proofs.lemmas.Bool.{cases_lt}
use Rattle.event_loop.specs.Names.{IsFrontOf, Event}
use Rattle.event_loop.specs.Durable.{Onward, latest, onward, stays, told_by}
use Rattle.event_loop.specs.LoopStates.{LoopState, Promises}
use Rattle.event_loop.specs.Served.{LoopStep, Served, begins, goes, keeps, waits}
use Rattle.std.specs.Prelude.{max}

pub same_front : (a b : List Event) → b ≡ a → IsFrontOf a b
same_front a b is = ([], is ∙ sym (append-nil a))

pub front_then : (a b c : List Event) → IsFrontOf a b → IsFrontOf b c → IsFrontOf a c
front_then a b c one two = (one.0 ++ two.0, two.1 ∙ ap (λ l. l ++ two.0) one.1 ∙ append_assoc a one.0 two.0)

one_of_two : (a b : ℕ) → (max a b ≡ a) ⊎ (max a b ≡ b)
one_of_two a b = elim (cases_lt a b) [
  | inl less ↦ inr (max-eq_right (omega (arith, less)))
  | inr le ↦ inl (max-eq_left (omega (arith, le)))
]

module _ {N C J K H : Type 0} (p : Promises N C J K H) where
  -- steps on from a state lead there
  pub served_on : (first s s' : LoopState N C J K H) → Served p first s → Onward p s s' → Served p first s'
  served_on first s s' served stays = served
  served_on first s s' served (onward {s' = middle} on step) = goes (served_on first s middle served on) step

  -- and from the first one on
  pub served_onward : (first s : LoopState N C J K H) → Served p first s → Onward p first s
  served_onward first s (begins is) = stays
  served_onward first s (goes {s = before} served step) = onward (served_onward first before served) step

  -- A MOMENT THAT IS TOLD

  -- the clocks told the moment at some state from the one on, up to the other
  pub record IsTold (s s' : LoopState N C J K H) (moment : ℕ) : Type 0 where
    pub at : LoopState N C J K H
    pub since : Onward p s at
    pub until : Onward p at s'
    pub told : moment ≡ at.times.moment

  told_there : (s s' : LoopState N C J K H) (step : LoopStep p s s') → (told_by step ≡ 0) ⊎ (told_by step ≡ s'.times.moment)
  told_there s s' (waits limit room found n times c keeper may done told near kept further) = inr refl
  told_there s s' (keeps keeper e unkept on undone kept moments further sole) = inr refl
  told_there s s' step = inl refl

  -- the greatest one was told, if any was
  pub latest_told : (s s' : LoopState N C J K H) (on : Onward p s s') → (latest on ≡ 0) ⊎ IsTold s s' (latest on)
  latest_told s s' stays = inl refl
  latest_told s s' (onward {s' = middle} on step) =
      elim (one_of_two (latest on) (told_by step)) [
        | inl one ↦ elim (latest_told s middle on) [
          | inl none ↦ inl (one ∙ none)
          | inr told ↦ inr (record { at = told.at; since = told.since; until = onward told.until step; told = one ∙ told.told })
        ]
        | inr other ↦ elim (told_there middle s' step) [
          | inl none ↦ inl (other ∙ none)
          | inr told ↦ inr (record { at = s'; since = onward on step; until = stays; told = other ∙ told })
        ]
      ]
