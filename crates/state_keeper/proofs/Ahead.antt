-- What changes leave that are written with a horizon in front of them, where it is later than those before.
use Rattle.std.proofs.Common.{◌≡◌, ◌<◌, ◌≤◌, ◌^◌, ℕ, List, [], ◌∷◌, ◌++◌, Bool, true, false, None, Option, refl, sym, ap, ◌∙◌, subst, arith}
use Rattle.std.specs.Prelude.{max, unwrap_or, nat_lt, ⊤}
use Rattle.std.specs.Option.{option_or}
use Rattle.std.proofs.lemmas.Bool.{ltb-true, ltb-false}
use Rattle.consent.specs.History.{Happened}
use Rattle.state_keeper.proofs.Names.{if◌then◌else◌, frames_size, tells_number, Event, HaveSpelling, batch_spelling, IsKnown, Known, StandFor, horizon, until_of}
use Rattle.state_keeper.proofs.Names.{AreTold, AreTold-changes, AreTold-joined, until_of-append, until_of-more, last_rules, last_rules-push}
use Rattle.state_keeper.proofs.Kept.{TellOn, tell_on}
use Rattle.state_keeper.specs.Seen.{with_horizon}
use Rattle.state_file.specs.HorizonLaws.{horizon_in-behind, is_horizon_behind, value_of}
use Rattle.state_file.specs.KnownLaws.{told_before}
use Rattle.state_file.specs.LengthLaws.{shortened_size-push}
use Rattle.state_file.specs.Standing.{horizon_in}
use Rattle.state_file.specs.StandingLaws.{AreTold-behind, StandFor-joined}
use Rattle.state_file.specs.Telling.{rules_in}

-- what is so of the batch with the horizon in front, and of it alone
by_front : (before until : ℕ) (batch : List ℕ) (P : List ℕ → Type 0) → (before < until → P (horizon until ++ batch)) → (until ≤ before → P batch) → P (with_horizon before until batch)
by_front before until batch P front alone = by (nat_lt before until) refl
  where
    by : (b : Bool) → nat_lt before until ≡ b → P (if b then horizon until ++ batch else batch)
    by true is = front (ltb-true before until is)
    by false is = alone (ltb-false before until is)

module _ (before until : ℕ) (facts : List Event) (fits : HaveSpelling facts) (less : until < 2 ^ 63) where
  abbrev pub written : List ℕ
  written = with_horizon before until (batch_spelling facts)

  -- it tells the changes, and no rules
  told : AreTold (written ∷ []) facts
  told = by_front before until (batch_spelling facts) (λ b. AreTold (b ∷ []) facts)
      (λ later. AreTold-behind until facts (is_horizon_behind until (batch_spelling facts) less) fits) (λ early. AreTold-changes facts fits)

  no_rules : rules_in written ≡ None
  no_rules = by_front before until (batch_spelling facts) (λ b. rules_in b ≡ None) (λ later. refl) (λ early. refl)

  same_rules : (batches : List (List ℕ)) → last_rules (batches ++ written ∷ []) ≡ last_rules batches
  same_rules batches = last_rules-push batches written ∙ ap (λ (o : Option (List ℕ)). option_or o (last_rules batches)) no_rules

  -- its moment is no later than the horizon's, and that is told where it is later than before
  no_later : unwrap_or (horizon_in written) 0 ≤ until
  no_later = by_front before until (batch_spelling facts) (λ b. unwrap_or (horizon_in b) 0 ≤ until)
      (λ later. let is = value_of (horizon_in (horizon until ++ batch_spelling facts)) until (horizon_in-behind until (batch_spelling facts) less) in omega (arith, is)) (λ early. omega arith)

  later_one : max before (unwrap_or (horizon_in written) 0) ≡ max before until
  later_one = by_front before until (batch_spelling facts) (λ b. max before (unwrap_or (horizon_in b) 0) ≡ max before until)
      (λ later. let is = value_of (horizon_in (horizon until ++ batch_spelling facts)) until (horizon_in-behind until (batch_spelling facts) less) in omega (arith, is)) (λ early. omega (arith, early))

  module _ (batches : List (List ℕ)) (batch : List ℕ) (is : batch ≡ written) where
    -- what the batches stood for, with what happened then
    pub ahead_stands : (history after : List Event) → Happened history facts after → StandFor batches history → StandFor (batches ++ batch ∷ []) after
    ahead_stands history after happened stands =
        subst (λ (b : List ℕ). StandFor (batches ++ b ∷ []) after) (sym is) (StandFor-joined batches (written ∷ []) history after facts stands told happened)

    -- they tell what they told, within the limit
    pub ahead_tells : (limit : ℕ) → until ≤ limit → TellOn limit batches (batches ++ batch ∷ [])
    ahead_tells limit within = subst (λ (b : List ℕ). TellOn limit batches (batches ++ b ∷ [])) (sym is)
        (tell_on limit batches (batches ++ written ∷ []) (until_of-more batches (written ∷ []))
        (λ moment le was. (let all = until_of-append batches (written ∷ []) in let one = no_later in omega (arith, all, one, le, was, within)))
        (λ rules tell. (tell.0, same_rules batches ∙ tell.1, tell.2)))

    -- and what is known of them
    pub ahead_known : (old new : Known) → old.until ≡ before → new.rules ≡ old.rules → new.shortened ≡ (if tells_number batch then frames_size (batches ++ batch ∷ []) else old.shortened) →
        new.until ≡ max before until → IsKnown ⊤ batches old → IsKnown ⊤ (batches ++ batch ∷ []) new
    ahead_known old new at rules sized now known = record {
      told = λ true. let tells = known.told true in (
        tells.0 ++ facts,
        subst (λ (b : List ℕ). AreTold (batches ++ b ∷ []) (tells.0 ++ facts)) (sym is) (AreTold-joined batches (written ∷ []) tells.0 facts tells.1 told),
      );
      rules_begin = rw rules known.rules_begin;
      rules_few = rw rules known.rules_few;
      rules_are = λ true. rw rules (told_before batches old.rules.items batch (ap (λ (b : List ℕ). last_rules (batches ++ b ∷ [])) is ∙ same_rules batches) (known.rules_are true));
      shortened_is = sized ∙ (let was = known.shortened_is in rw was (sym (shortened_size-push batches batch)));
      until_is = λ true. (
          let here = ap (λ (b : List ℕ). until_of (batches ++ b ∷ [])) is in
          let all = until_of-append batches (written ∷ []) in
          let was = known.until_is true in
          let both = later_one in
          omega (arith, here, all, was, at, both, now));
    }
