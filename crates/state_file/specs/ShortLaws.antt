-- What batches tell that begin with rules and end with a horizon, and between them tell changes alone. For proofs alone.
use Rattle.std.proofs.Common.{◌≡◌, ◌<◌, ◌≤◌, ◌+◌, ◌-◌, ◌^◌, ◌∙◌, take, ℕ, zero, suc, List, [], ◌∷◌, ◌++◌, None, Some, refl, sym, ap, subst, arith}
use Rattle.state_file.specs.Names.{Event}
use Rattle.std.proofs.lemmas.List.{append-nil, map-append}
use Rattle.state_file.specs.Standing.{horizon_in, horizons, AreTold, until_of}
use Rattle.state_file.specs.Telling.{last_rules, rules_in}
use Rattle.state_file.specs.StandingLaws.{AreTold-joined, AreTold-rules, until_of-append}
use Rattle.change_codec.specs.declared.dated.DatedChange.{DatedChange}
use Rattle.change_codec.specs.Spelling.{dated_facts, dated_fact}
use Rattle.state_file.specs.HorizonLaws.{AreTold-horizons, by_horizons, until_of-horizons}
use Rattle.std.specs.List.{slice_range}
use Rattle.std.proofs.Math.Seq.{take-add}
use Rattle.state_file.specs.ShortParts.{AddsChanges, ArePlain}

-- BATCHES OF CHANGES ALONE

pub plain-joined : (some more : List (List ℕ)) → ArePlain some → ArePlain more → ArePlain (some ++ more)
plain-joined [] more plain others = others
plain-joined (batch ∷ batches) more plain others = (plain.0, plain-joined batches more plain.1 others)

-- they tell no moment, and hide no rules
plain_until : (batches : List (List ℕ)) → ArePlain batches → until_of batches ≡ 0
plain_until [] plain = refl
plain_until (batch ∷ batches) plain = rw (plain.0.no_horizon, plain_until batches plain.1) refl

plain_rules : (batches more : List (List ℕ)) → ArePlain batches → last_rules more ≡ None → last_rules (batches ++ more) ≡ None
plain_rules [] more plain none = none
plain_rules (batch ∷ batches) more plain none = rw (plain_rules batches more plain.1 none, plain.0.no_rules) refl

pub range_more : (changes : List DatedChange) (at end : ℕ) → at ≤ end →
    dated_facts (take end changes) ≡ dated_facts (take at changes) ++ dated_facts (slice_range changes at end)
range_more changes at end le =
    let whole : at + (end - at) ≡ end = omega arith in
    ap (λ (n : ℕ). dated_facts (take n changes)) (sym whole) ∙ ap dated_facts (take-add at (end - at) changes)
    ∙ map-append dated_fact (take at changes) (slice_range changes at end)

-- ALL OF THEM

-- rules come first, and then the changes
told_rules : (rules : List ℕ) → rules_in rules ≡ Some rules → AreTold (rules ∷ []) []
told_rules (zero ∷ fields) is = AreTold-rules fields
told_rules [] is = absurd cc
told_rules (suc n ∷ fields) is = absurd cc

module _ (rules : List ℕ) (facts : List Event) (begun numbered all : List (List ℕ)) (until : ℕ) (is : rules_in rules ≡ Some rules) (begins : begun ≡ rules ∷ []) (adds : AddsChanges facts begun numbered)
    (ends : all ≡ numbered ++ horizons until) (less : until < 2 ^ 63) where
  parts : all ≡ rules ∷ (adds.more ++ horizons until)
  parts =
      ends ∙ ap (λ (bs : List (List ℕ)). bs ++ horizons until) (adds.added ∙ ap (λ (bs : List (List ℕ)). bs ++ adds.more) begins)

  pub are_told : AreTold all facts
  are_told =
      subst (λ (bs : List (List ℕ)). AreTold bs facts) (sym parts)
      (subst (λ (es : List Event). AreTold (rules ∷ (adds.more ++ horizons until)) es) (append-nil facts)
      (AreTold-joined (rules ∷ []) (adds.more ++ horizons until) [] (facts ++ []) (told_rules rules is)
      (AreTold-joined adds.more (horizons until) facts [] adds.told (AreTold-horizons until less))))

  pub rules_are : last_rules all ≡ Some rules
  rules_are =
      let none : last_rules (horizons until) ≡ None = by_horizons until (λ bs. last_rules bs ≡ None) (λ _. refl) refl in
      ap last_rules parts ∙ rw (plain_rules adds.more (horizons until) adds.plain none, is) refl

  pub until_is : until_of all ≡ until
  until_is =
      let first : horizon_in rules ≡ None = no_horizon rules is in
      let none = plain_until adds.more adds.plain in
      let last = until_of-horizons until less in
      let both = until_of-append adds.more (horizons until) in
      ap until_of parts ∙ rw first (omega (arith, none, last, both))
    where
      no_horizon : (rules : List ℕ) → rules_in rules ≡ Some rules → horizon_in rules ≡ None
      no_horizon (zero ∷ fields) is = refl
      no_horizon [] is = refl
      no_horizon (suc n ∷ fields) is = absurd cc
