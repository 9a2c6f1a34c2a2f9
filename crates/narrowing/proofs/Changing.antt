-- Going over a list of changes: which codes go beyond the rules, and what takes the place of what.
use Rattle.std.proofs.Common.{◌≡◌, ◌<◌, ◌≤◌, ◌+◌, ℕ, List, [], ◌∷◌, ◌++◌, Bool, take, drop, set, length, get_or, refl, ap, sym, ◌∙◌, arith}
use Rattle.std.proofs.Math.ListN.{drop_of_length-le}
use Rattle.std.proofs.lemmas.List.{map-append, append_assoc, append-nil, drop_more, drop-set-lt, take_more_set, take_more, take_all}
use Rattle.change_codec.specs.Spelling.{dated_fact, dated_facts}
use Rattle.change_codec.specs.declared.dated.DatedChange.{DatedChange}
use Rattle.consent.specs.GrowthLaws.{code_terms-append}
use Rattle.consent.specs.History.{Event, Change, code_terms, event_at}
use Rattle.narrowing.specs.Codes.{Notes, TellsCodes, beyond_by}
use Rattle.narrowing.specs.Left.{Under, is_beyond_rules, left_event, left_under}
use Rattle.narrowing.specs.LeftLaws.{left_events}

-- CODES

at_any : (moment : ℕ) (change : Change) (family : ℕ) → code_terms (event_at 0 change ∷ []) family ≡ code_terms (event_at moment change ∷ []) family
at_any moment change family = grind arith

pub told_more : (under : Under) (before : List Event) (e : Event) (old new : List (ℕ × Bool)) → TellsCodes under before old →
    Notes under e.change old new → TellsCodes under (before ++ e ∷ []) new
told_more under before e old new tells notes family =
    let both = code_terms-append before (e ∷ []) family in
    let was = tells family in
    let now = notes family in
    let same = at_any e.moment e.change family in grind (arith, both, was, now, same)

beyond_same : (under : Under) (history : List Event) (codes : List (ℕ × Bool)) → TellsCodes under history codes → (family : ℕ) →
    beyond_by codes family ≡ is_beyond_rules under history family
beyond_same under history codes tells family = let told = tells family in grind (arith, told)

left_same : (under : Under) (some others : ℕ → Bool) → ((family : ℕ) → some family ≡ others family) → (es : List Event) →
    left_events under some es ≡ left_events under others es
left_same under some others same [] = refl
left_same under some others same (e ∷ es) = let more = left_same under some others same es in grind (arith, same, more)

pub left_by_codes : (under : Under) (history : List Event) (codes : List (ℕ × Bool)) → TellsCodes under history codes →
    left_events under (beyond_by codes) history ≡ left_under under history
left_by_codes under history codes tells = left_same under (beyond_by codes) (is_beyond_rules under history) (beyond_same under history codes tells) history

-- IN PLACE

module _ (under : Under) (beyond : ℕ → Bool) where
  -- so many that are left already, and what is left of those from a place on
  abbrev pub with_rest : List DatedChange → ℕ → List Event
  with_rest xs place = dated_facts (take place xs) ++ left_events under beyond (dated_facts (drop place xs))

  -- nothing is behind them
  pub all_left : (xs : List DatedChange) (place : ℕ) → length xs ≤ place → with_rest xs place ≡ dated_facts xs
  all_left xs place past =
      ap (λ (ys : List DatedChange). dated_facts (take place xs) ++ left_events under beyond (dated_facts ys)) (drop_of_length-le xs past)
      ∙ append-nil (dated_facts (take place xs)) ∙ ap dated_facts (take_all place xs past)

  module _ (xs : List DatedChange) (place : ℕ) (x : DatedChange) (within : place < length xs) (is : x ≡ get_or xs place x) where
    abbrev rest : List Event
    rest = left_events under beyond (dated_facts (drop (place + 1) xs))

    from_here : left_events under beyond (dated_facts (drop place xs)) ≡ left_event under beyond (dated_fact x) ∷ rest
    from_here =
        ap (λ (ys : List DatedChange). left_events under beyond (dated_facts ys)) (drop_more xs place x within)
        ∙ ap (λ (r : DatedChange). left_event under beyond (dated_fact r) ∷ rest) (sym is)

    -- it is left as this
    pub one_left : (r : DatedChange) → dated_fact r ≡ left_event under beyond (dated_fact x) → with_rest (set xs place r) (place + 1) ≡ with_rest xs place
    one_left r at =
        let front : dated_facts (take (place + 1) (set xs place r)) ≡ dated_facts (take place xs) ++ dated_fact r ∷ [] =
        ap dated_facts (take_more_set xs place r within) ∙ map-append dated_fact (take place xs) (r ∷ []) in
        let behind : drop (place + 1) (set xs place r) ≡ drop (place + 1) xs = drop-set-lt (place + 1) xs place r (omega arith) in
        rw (front, behind) (append_assoc (dated_facts (take place xs)) (dated_fact r ∷ []) rest
        ∙ ap (λ (e : Event). dated_facts (take place xs) ++ e ∷ rest) at ∙ ap (λ (es : List Event). dated_facts (take place xs) ++ es) (sym from_here))

    -- it is left as it is
    pub none_changed : dated_fact x ≡ left_event under beyond (dated_fact x) → with_rest xs (place + 1) ≡ with_rest xs place
    none_changed at =
        let front : dated_facts (take (place + 1) xs) ≡ dated_facts (take place xs) ++ dated_fact x ∷ [] =
        ap dated_facts (take_more xs place x within ∙ ap (λ (y : DatedChange). take place xs ++ y ∷ []) (sym is)) ∙ map-append dated_fact (take place xs) (x ∷ []) in
        rw front (append_assoc (dated_facts (take place xs)) (dated_fact x ∷ []) rest
        ∙ ap (λ (e : Event). dated_facts (take place xs) ++ e ∷ rest) at ∙ ap (λ (es : List Event). dated_facts (take place xs) ++ es) (sym from_here))
