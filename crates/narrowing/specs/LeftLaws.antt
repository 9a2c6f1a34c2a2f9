-- What is left of a history, by what is asked of it.
use Rattle.std.proofs.Common.{◌≡◌, ◌≤◌, ℕ, List, [], ◌∷◌, Bool, true, false, cond, Option, None, Some, refl, ap, sym, ◌∙◌, arith}
use Rattle.std.specs.Prelude.{◌==◌, ◌&&◌, ◌||◌, not, nat_le, find, is_some, map, count_by, option_map, unwrap_or}
use Rattle.std.specs.Option.{option_map_or}
use Rattle.std.specs.List.{list_any, list_all, filter_map, cons_option}
use Rattle.std.proofs.lemmas.Bool.Decides.{nat_tests}
use Rattle.std.proofs.lemmas.List.Folds.{list_all-map}
use Rattle.consent.specs.ListLaws.{find-uncounted, count_by-narrower, count_by-cons}
use Rattle.consent.specs.History.{Event, Change, Grant, Terms, event_at, grant_of, grants, grant_at, is_named, is_unexpired, unexpired_count, is_code_of, last_consent, consented_scope, opener, code_terms, terms_of, lowers, ends, is_lowered, has_ended, spends, is_spent, family_of, greatest_family, are_kin, all_kin, last_moment, IsHistory}
use Rattle.consent.specs.History.Change.{CodeGiven, Issued, FamilyEnded}
use Rattle.consent.specs.declared.grant.Kind.{Kind}
use Rattle.endpoints.specs.Bounded.{is_of_code}
use Rattle.narrowing.specs.Left.{Under, left_of, left_event, mask_under}
use Rattle.rules_beside.specs.Beside.{is_former}
use Rattle.narrowing.specs.LeftKept.{left_by, left_grant}
use Rattle.narrowing.specs.ListsLaws.{passes, left_found, count_by-left, list_all-left, find-left, find-kept}

-- where the event gives a code of the family, its owner is no former one
abbrev pub is_no_formers : Under → ℕ → Event → Bool
is_no_formers under family e = option_map_or (λ g. not (is_code_of family g && is_former under.owners g.owner)) (grant_of e) true

module _ (under : Under) (beyond : ℕ → Bool) where
  abbrev pub left_events : List Event → List Event
  left_events es = map (left_event under beyond) es

  -- CONSENTS

  last_consent_left : (es : List Event) (owner client : ℕ) →
      last_consent (left_events es) owner client ≡ option_map (mask_under under owner) (last_consent es owner client)
  last_consent_left [] owner client = refl
  last_consent_left (e ∷ es) owner client = let more = last_consent_left es owner client in grind (arith, nat_tests, more)

  pub consented_left : (es : List Event) (owner client : ℕ) → consented_scope (left_events es) owner client ≡ mask_under under owner (consented_scope es owner client)
  consented_left es owner client = let last = last_consent_left es owner client in grind (arith, last)

  -- CODES AND TOKENS

  abbrev pub grant_left : Grant → Option Grant
  grant_left g = cond (beyond g.family) None (Some (left_grant under.rules g))

  pub grants_left : (es : List Event) → grants (left_events es) ≡ filter_map grant_left (grants es)
  grants_left [] = refl
  grants_left (e ∷ es) = let more = grants_left es in grind (arith, more)

  pub family_by : (kind : Kind) (g : Grant) → (left_by under.rules kind g).family ≡ g.family
  family_by kind g = grind arith

  -- what is unexpired of it was
  pub unexpired_left : (t : ℕ) (g : Grant) → is_unexpired t (left_grant under.rules g) ≡ true → is_unexpired t g ≡ true
  unexpired_left t g is = grind (arith, nat_tests, is)

  pub named_left : (digest : List ℕ) (t : ℕ) (g : Grant) → passes (is_named digest t) (grant_left g) ≡ true → is_named digest t g ≡ true
  named_left digest t g is = let was = unexpired_left t g in grind (arith, was, is)

  -- what a digest names is what is left of what it named
  pub grant_at_left : (es : List Event) (digest : List ℕ) (t : ℕ) → count_by (is_named digest t) (grants es) ≤ 1 →
      grant_at (left_events es) digest t ≡ left_found grant_left (is_named digest t) (grant_at es digest t)
  grant_at_left es digest t one =
      ap (find (is_named digest t)) (grants_left es) ∙ find-left grant_left (is_named digest t) (is_named digest t) (grants es) (named_left digest t) one

  pub count_left : (es : List Event) (t : ℕ) →
      unexpired_count (left_events es) t ≡ count_by (λ g. passes (is_unexpired t) (grant_left g)) (grants es)
  count_left es t = ap (count_by (is_unexpired t)) (grants_left es) ∙ count_by-left grant_left (is_unexpired t) (grants es)

  -- no more is counted by a test that what is left passes only where it passed
  fewer : (p : Grant → Bool) (es : List Event) → ((g : Grant) → passes p (grant_left g) ≡ true → p g ≡ true) →
      count_by p (grants (left_events es)) ≤ count_by p (grants es)
  fewer p es wide =
      let a = ap (count_by p) (grants_left es) in let b = count_by-left grant_left p (grants es) in
      let c = count_by-narrower p (λ g. passes p (grant_left g)) (grants es) wide in omega (arith, a, b, c)

  -- FAMILIES THAT ARE NOT BEYOND THE RULES

  module _ (family : ℕ) (stays : beyond family ≡ false) where
    abbrev same_family : Grant → Bool
    same_family g = g.family == family

    pub opener_left : (es : List Event) → opener (left_events es) family ≡ option_map (left_grant under.rules) (opener es family)
    opener_left es =
        ap (find same_family) (grants_left es)
        ∙ find-kept grant_left (left_grant under.rules) same_family (λ g is. grind (arith, nat_tests, stays, is)) (λ g h at. grind (arith, at)) (grants es)

    pub no_code_left : (es : List Event) → is_of_code (opener es family) ≡ false → is_of_code (opener (left_events es) family) ≡ false
    no_code_left es none = let same = opener_left es in grind (arith, same, none)

    -- its code is left as it is
    pub code_terms_left : (es : List Event) → code_terms (left_events es) family ≡ code_terms es family
    code_terms_left es =
        let same = find-kept grant_left (λ g. g) (is_code_of family) (λ g is. grind (arith, nat_tests, stays, is)) (λ g h at. grind (arith, at)) (grants es) in
        ap (λ gs. option_map terms_of (find (is_code_of family) gs)) (grants_left es) ∙ grind (arith, same)

    any_lowers_left : (terms : Terms) → is_former under.owners terms.owner ≡ false → (es : List Event) →
        list_any (λ e. lowers terms e.change) (left_events es) ≡ list_any (λ e. lowers terms e.change) es
    any_lowers_left terms here [] = refl
    any_lowers_left terms here (e ∷ es) = let more = any_lowers_left terms here es in grind (arith, nat_tests, here, more)

    abbrev ended_by : Change → List Event → Bool
    ended_by change later = ends family change || is_lowered family change later || has_ended later family

    ended_event : (es : List Event) (m : ℕ) (change : Change) → is_no_formers under family (event_at m change) ≡ true → has_ended (left_events es) family ≡ has_ended es family →
        ended_by (left_of under beyond change) (left_events es) ≡ ended_by change es
    ended_event es m (CodeGiven f code digest) here rest =
        let lowered = any_lowers_left (record { client = code.client; owner = code.owner; scope = code.scope }) in
        grind (arith, nat_tests, stays, here, lowered, rest)
    ended_event es m (Issued f parties token) here rest = grind (arith, nat_tests, stays, rest)
    ended_event es m (FamilyEnded f) here rest = ap (λ b. (f == family) || false || b) rest
    ended_event es m _ here rest = rest

    pub ended_left : (es : List Event) → list_all (is_no_formers under family) es ≡ true → has_ended (left_events es) family ≡ has_ended es family
    ended_left [] all = refl
    ended_left (e ∷ es) all = ended_event es e.moment e.change (grind (arith, all)) (ended_left es (grind (arith, all)))

  -- SPENDING

  any_spends_left : (digest : List ℕ) (es : List Event) → list_any (λ e. spends digest e.change) (left_events es) ≡ list_any (λ e. spends digest e.change) es
  any_spends_left digest [] = refl
  any_spends_left digest (e ∷ es) = let more = any_spends_left digest es in grind (arith, more)

  module _ (digest : List ℕ) (t : ℕ) where
    abbrev named : Grant → Bool
    named g = is_named digest t g

    spent_step : (o : Option Grant) (gs : List Grant) (X X' S S' : Bool) → X' ≡ X →
        (count_by named gs ≤ 1 → is_some (find named (filter_map grant_left gs)) ≡ true → S' ≡ S) →
        count_by named (cons_option o gs) ≤ 1 → is_some (find named (filter_map grant_left (cons_option o gs))) ≡ true →
        cond (is_some (find named (filter_map grant_left (cons_option o [])))) X' S' ≡ cond (is_some (find named (cons_option o []))) X S
    spent_step None gs X X' S S' same rest one there = rest one there
    spent_step (Some g) gs X X' S S' same rest one there =
        let c = count_by-cons named g gs in
        let none = find-uncounted named gs in
        let found = find-left grant_left named named gs (named_left digest t) in
        let was = named_left digest t g in grind (arith, c, none, found, was, same, rest, one, there)

    -- what is left is spent where it was
    pub spent_left : (es : List Event) → count_by named (grants es) ≤ 1 → is_some (grant_at (left_events es) digest t) ≡ true →
        is_spent (left_events es) digest t ≡ is_spent es digest t
    spent_left [] one there = refl
    spent_left (e ∷ es) one there =
        ap (λ gs. cond (is_some (find named gs)) (list_any (λ x. spends digest x.change) (left_events es)) (is_spent (left_events es) digest t)) (grants_left (e ∷ []))
        ∙ spent_step (grant_of e) (grants es) _ _ _ _ (any_spends_left digest es)
        (λ one there. spent_left es one (ap (λ gs. is_some (find named gs)) (grants_left es) ∙ there)) one
        (sym (ap (λ gs. is_some (find named gs)) (grants_left (e ∷ es))) ∙ there)

  -- WHAT EVERY HISTORY HAS

  kin_by : (kind : Kind) (g : Grant) → ((left_by under.rules kind g).client ≡ g.client) × ((left_by under.rules kind g).owner ≡ g.owner)
  kin_by kind g = (grind arith, grind arith)

  kin_of : (g h x y : Grant) → grant_left g ≡ Some h → grant_left x ≡ Some y → are_kin g x ≡ true → are_kin h y ≡ true
  kin_of g h x y at bt is =
      let one = kin_by g.kind g in
      let other = kin_by x.kind x in
      let family = family_by g.kind g in
      let same = family_by x.kind x in
      grind (arith, nat_tests, one, other, family, same, at, bt, is)

  all_kin_left : (es : List Event) → all_kin (grants es) ≡ true → all_kin (grants (left_events es)) ≡ true
  all_kin_left es kin =
      ap all_kin (grants_left es)
      ∙ list_all-left grant_left (λ g. list_all (are_kin g) (grants es)) (λ h. list_all (are_kin h) (filter_map grant_left (grants es))) (grants es)
      (λ g h all at. list_all-left grant_left (are_kin g) (are_kin h) (grants es) (λ x y is bt. kin_of g h x y at bt is) all) kin

  -- families have the numbers that they had
  numbered_left : (change : Change) → family_of (left_of under beyond change) ≡ family_of change
  numbered_left change = grind arith

  pub greatest_left : (es : List Event) → greatest_family (left_events es) ≡ greatest_family es
  greatest_left [] = refl
  greatest_left (e ∷ es) = let here = numbered_left e.change in let more = greatest_left es in grind (arith, here, more)

  pub is_history_left : (es : List Event) (moment : ℕ) → IsHistory es moment → IsHistory (left_events es) moment
  is_history_left es moment is = record {
    past = list_all-map (λ e. nat_le e.moment moment) (left_event under beyond) es ∙ is.past;
    single = λ digest. (let a = fewer (is_named digest moment) es (named_left digest moment) in let b = is.single digest in omega (arith, a, b));
    one_code = λ family. (let a = fewer (is_code_of family) es (λ g here. grind (arith, here)) in let b = is.one_code family in omega (arith, a, b));
    kin = all_kin_left es is.kin;
  }

  -- nothing happened at another moment
  pub last_left : (m : ℕ) (es : List Event) → last_moment m (left_events es) ≡ last_moment m es
  last_left m [] = refl
  last_left m (e ∷ es) = last_left e.moment es
