-- A list that is left of what happened is so when both are left under other rules.
use Rattle.std.proofs.Common.{◌≡◌, ◌≤◌, ℕ, List, [], ◌∷◌, ◌++◌, Bool, true, false, cond, Option, None, Some, refl, ap, sym, subst, ◌∙◌, arith}
use Rattle.std.specs.Prelude.{find, filter, is_some, option_map}
use Rattle.std.specs.List.{list_all, list_any, filter_map}
use Rattle.std.proofs.lemmas.Bool.Decides.{nat_tests}
use Rattle.std.proofs.lemmas.Bool.{eq-eqb}
use Rattle.std.proofs.lemmas.List.{map-append}
use Rattle.consent.specs.ListLaws.{find-none}
use Rattle.consent.specs.GrowthLaws.{is_spent-unnamed}
use Rattle.consent.specs.HistoryLaws.{is_history-later, is_other}
use Rattle.consent.specs.History.{Event, Change, Grant, grants, grant_at, is_named, is_unexpired, is_code_of, is_live_in, lives, is_spent, is_kin, are_in_order, consented_scope, greatest_family, terms_of, code_terms, CanStand, IsHistory}
use Rattle.consent.specs.History.Change.{CodeGiven, Issued, FamilyEnded}
use Rattle.consent.specs.declared.grant.Kind.{Kind}
use Rattle.shortening.specs.Hooks.{takes, hooks_set}
use Rattle.shortening.specs.Left.{KeepsFamily}
use Rattle.shortening.specs.Lists.{AllStand, CodesOpen}
use Rattle.shortening.specs.Shortened.{TellsAlike, all_closed, closes, unexpired}
use Rattle.shortening.specs.ShortenedLaws.{named_at}
use Rattle.shortening.specs.Standing.{IsLeftOf, IsSound, IsWhole}
use Rattle.narrowing.specs.Left.{Under, do_go_beyond, is_beyond_rules, left_event, left_of, left_under, mask_under, token_under}
use Rattle.narrowing.specs.ConsentsLaws.{same_kept}
use Rattle.narrowing.specs.FormerLaws.{no_formers}
use Rattle.narrowing.specs.LeftKept.{left_by}
use Rattle.narrowing.specs.LeftLaws.{left_events, grant_left, grants_left, family_by, named_left, unexpired_left, opener_left, code_terms_left, ended_left, spent_left, greatest_left, consented_left, is_history_left}
use Rattle.narrowing.specs.ListsLaws.{find_left-none, list_all-left}

-- A LIST BY ITSELF

module _ (under : Under) (beyond : ℕ → Bool) where
  abbrev left : List Event → List Event
  left es = left_events under beyond es

  any_takes_left : (name : List ℕ) (es : List Event) → list_any (λ e. takes name e.change) (left es) ≡ list_any (λ e. takes name e.change) es
  any_takes_left name [] = refl
  any_takes_left name (e ∷ es) = let more = any_takes_left name es in grind (arith, more)

  pub hooks_left : (es : List Event) → hooks_set (left es) ≡ hooks_set es
  hooks_left [] = refl
  hooks_left (e ∷ es) = let any = λ (name : List ℕ). any_takes_left name es in let more = hooks_left es in grind (arith, any, more)

  in_order_left : (m : ℕ) (es : List Event) → are_in_order m (left es) ≡ are_in_order m es
  in_order_left m [] = refl
  in_order_left m (e ∷ es) = let more = in_order_left e.moment es in grind (arith, more)

  -- nothing is given of a family that is beyond the rules
  none_beyond : (family : ℕ) → beyond family ≡ true → (es : List Event) → list_all (is_other family) (grants (left es)) ≡ true
  none_beyond family is [] = refl
  none_beyond family is (e ∷ es) = let more = none_beyond family is es in grind (arith, nat_tests, is, more)

  -- nor of one that nothing was given of
  none_left : (family : ℕ) (es : List Event) → list_all (is_other family) (grants es) ≡ true → list_all (is_other family) (grants (left es)) ≡ true
  none_left family es none =
      ap (list_all (is_other family)) (grants_left under beyond es)
      ∙ list_all-left (grant_left under beyond) (is_other family) (is_other family) (grants es)
      (λ g h other at. let same = family_by under beyond g.kind g in grind (arith, same, other, at)) none

  closes_left : (change : Change) (es : List Event) → closes change es ≡ true → closes (left_of under beyond change) (left es) ≡ true
  closes_left (CodeGiven f code digest) es was = let none = λ (is : beyond f ≡ true). none_beyond f is es in grind (arith, none)
  closes_left (Issued f parties token) es was = let none = λ (is : beyond f ≡ true). none_beyond f is es in grind (arith, none)
  closes_left (FamilyEnded f) es was = none_left f es was
  closes_left _ es was = refl

  closed_left : (es : List Event) → all_closed es ≡ true → all_closed (left es) ≡ true
  closed_left [] was = refl
  closed_left (e ∷ es) was =
      let here = closes_left e.change es in let more = closed_left es in grind (arith, here, more, was)

  unnamed_left : (es : List Event) (digest : List ℕ) (t : ℕ) → grant_at es digest t ≡ None → grant_at (left es) digest t ≡ None
  unnamed_left es digest t none =
      ap (find (is_named digest t)) (grants_left under beyond es)
      ∙ find_left-none (grant_left under beyond) (is_named digest t) (is_named digest t) (named_left under beyond digest t) (grants es) none

  -- it is of a family's client and owner, if it is of the family
  kin_left : (family client owner : ℕ) (es : List Event) → list_all (is_kin family client owner) (grants es) ≡ true →
      list_all (is_kin family client owner) (grants (left es)) ≡ true
  kin_left family client owner es kin =
      ap (list_all (is_kin family client owner)) (grants_left under beyond es)
      ∙ list_all-left (grant_left under beyond) (is_kin family client owner) (is_kin family client owner) (grants es) (λ g h is at. grind (arith, is, at)) kin

  can_stand_left : (before : List Event) (moment : ℕ) (change : Change) → CanStand before moment change → CanStand (left before) moment (left_of under beyond change)
  can_stand_left before moment (CodeGiven f code digest) can = by (beyond f)
    where
      by : (b : Bool) → CanStand (left before) moment (cond b (FamilyEnded f) (CodeGiven f code digest))
      by true = tt
      by false = (let same = greatest_left under beyond before in grind (arith, same, can.0), unnamed_left before digest moment can.1)
  can_stand_left before moment (Issued f parties token) can = by (beyond f)
    where
      by : (b : Bool) → CanStand (left before) moment (cond b (FamilyEnded f) (Issued f parties (token_under under.rules parties.client token)))
      by true = tt
      by false = (kin_left f parties.client parties.owner before can.0, unnamed_left before token.digest moment can.1)
  can_stand_left before moment _ can = tt

  all_stand_left : (before es : List Event) → AllStand before es → AllStand (left before) (left es)
  all_stand_left before [] all = tt
  all_stand_left before (e ∷ es) all = (
    can_stand_left before e.moment e.change all.0,
    subst (λ (b : List Event). AllStand b (left es)) (map-append (left_event under beyond) before (e ∷ [])) (all_stand_left (before ++ e ∷ []) es all.1),
  )

  pub sound_left : (es : List Event) (m : ℕ) → IsSound es m → IsSound (left es) m
  sound_left es m sound = record {
    stands = all_stand_left [] es sound.stands;
    in_order = in_order_left 0 es ∙ sound.in_order;
    closed = closed_left es sound.closed;
    is_history = is_history_left under beyond es m sound.is_history;
  }

  code_by : (kind : Kind) (g : Grant) → (left_by under.rules kind g).kind ≡ g.kind
  code_by kind g = grind arith

  codes_open_left : (es : List Event) → CodesOpen es → CodesOpen (left es)
  codes_open_left es opens family is = by (beyond family) refl
    where
      by : (b : Bool) → beyond family ≡ b → code_terms (left es) family ≡ None
      by true gone = ap (option_map terms_of) (find-none (is_code_of family) (is_other family) (grants (left es)) (λ g other. grind (arith, other)) (none_beyond family gone es))
      by false stays =
          let same = opener_left under beyond family stays es in
          let kind = λ (g : Grant). code_by g.kind g in
          code_terms_left under beyond family stays es ∙ opens family (grind (arith, same, kind, is))

  pub whole_left : (es : List Event) (m : ℕ) → IsWhole es m → IsWhole (left es) m
  whole_left es m whole = record {
    is_history = is_history_left under beyond es m whole.is_history;
    codes_open = codes_open_left es whole.codes_open;
  }

  -- what is unexpired of it is of what was unexpired
  unexpired_of : (m : ℕ) (gs : List Grant) →
      filter (is_unexpired m) (filter_map (grant_left under beyond) gs) ≡ filter (is_unexpired m) (filter_map (grant_left under beyond) (filter (is_unexpired m) gs))
  unexpired_of m [] = refl
  unexpired_of m (g ∷ gs) = let was = unexpired_left under beyond m g in let more = unexpired_of m gs in grind (arith, was, more)

  pub unexpired_events : (es : List Event) (m : ℕ) → unexpired (left es) m ≡ filter (is_unexpired m) (filter_map (grant_left under beyond) (unexpired es m))
  unexpired_events es m = ap (filter (is_unexpired m)) (grants_left under beyond es) ∙ unexpired_of m (grants es)

  -- a family that lives in it lived, and is not beyond the rules
  live_left : (m family : ℕ) (es : List Event) → lives (left es) m family ≡ true → (lives es m family ≡ true) × (beyond family ≡ false)
  live_left m family es live = by (grants es) (ap (list_any (is_live_in family m)) (sym (grants_left under beyond es)) ∙ live)
    where
      by : (gs : List Grant) → list_any (is_live_in family m) (filter_map (grant_left under beyond) gs) ≡ true →
          (list_any (is_live_in family m) gs ≡ true) × (beyond family ≡ false)
      by [] live = cc
      by (g ∷ gs) live =
          let more = by gs in
          let was = unexpired_left under beyond m g in
          let same = family_by under beyond g.kind g in
          (grind (arith, nat_tests, more, was, same, live), grind (arith, nat_tests, more, was, same, live))

-- where two call the same families beyond the rules, the same is left
same_unexpired : (under : Under) (some others : ℕ → Bool) (m : ℕ) (gs : List Grant) →
    ((family : ℕ) → list_any (is_live_in family m) gs ≡ true → some family ≡ others family) →
    filter (is_unexpired m) (filter_map (grant_left under some) gs) ≡ filter (is_unexpired m) (filter_map (grant_left under others) gs)
same_unexpired under some others m [] same = refl
same_unexpired under some others m (g ∷ gs) same =
    let here = same g.family in
    let own = eq-eqb g.family g.family refl in
    let was = unexpired_left under some m g in
    let more = same_unexpired under some others m gs (λ family live. same family (grind (arith, live))) in grind (arith, here, own, was, more)

-- A LIST AND A HISTORY

module _ (under : Under) (list history : List Event) (m : ℕ) (alike : TellsAlike history list m) where
  beyond_alike : (family : ℕ) → lives history m family ≡ true → is_beyond_rules under list family ≡ is_beyond_rules under history family
  beyond_alike family live = ap (do_go_beyond under) (alike.families family live).terms

  left_unexpired : unexpired (left_under under list) m ≡ unexpired (left_under under history) m
  left_unexpired =
      unexpired_events under (is_beyond_rules under list) list m
      ∙ ap (λ gs. filter (is_unexpired m) (filter_map (grant_left under (is_beyond_rules under list)) gs)) alike.unexpired
      ∙ sym (unexpired_of under (is_beyond_rules under list) m (grants history))
      ∙ same_unexpired under (is_beyond_rules under list) (is_beyond_rules under history) m (grants history) beyond_alike
      ∙ sym (ap (filter (is_unexpired m)) (grants_left under (is_beyond_rules under history) history))

  left_named : (digest : List ℕ) (t : ℕ) → m ≤ t → grant_at (left_under under list) digest t ≡ grant_at (left_under under history) digest t
  left_named digest t le =
      sym (named_at (left_under under list) digest m t le) ∙ ap (find (is_named digest t)) left_unexpired ∙ named_at (left_under under history) digest m t le

  left_spent : IsHistory history m → IsHistory list m → (digest : List ℕ) (t : ℕ) → m ≤ t →
      is_spent (left_under under list) digest t ≡ is_spent (left_under under history) digest t
  left_spent happened sound digest t le = by (grant_at (left_under under history) digest t) refl
    where
      by : (o : Option Grant) → grant_at (left_under under history) digest t ≡ o → is_spent (left_under under list) digest t ≡ is_spent (left_under under history) digest t
      by None none =
          is_spent-unnamed (left_under under list) digest t (left_named digest t le ∙ none) ∙ sym (is_spent-unnamed (left_under under history) digest t none)
      by (Some g) at =
          spent_left under (is_beyond_rules under list) digest t list ((is_history-later list m t le sound).single digest) (ap is_some (left_named digest t le ∙ at))
          ∙ alike.spent digest t le
          ∙ sym (spent_left under (is_beyond_rules under history) digest t history ((is_history-later history m t le happened).single digest) (ap is_some at))

  left_families : IsHistory history m → IsHistory list m → (family : ℕ) → lives (left_under under history) m family ≡ true →
      KeepsFamily (left_under under history) (left_under under list) family
  left_families happened sound family live =
      let was = live_left under (is_beyond_rules under history) m family history live in
      let stays : is_beyond_rules under list family ≡ false = beyond_alike family was.0 ∙ was.1 in
      let same = alike.families family was.0 in record {
        terms = code_terms_left under (is_beyond_rules under list) family stays list ∙ same.terms
            ∙ sym (code_terms_left under (is_beyond_rules under history) family was.1 history);
        ended = ended_left under (is_beyond_rules under list) family stays list (no_formers under family list (sound.one_code family) stays) ∙ same.ended
            ∙ sym (ended_left under (is_beyond_rules under history) family was.1 history (no_formers under family history (happened.one_code family) was.1));
      }

  left_consented : (owner client : ℕ) → consented_scope (left_under under list) owner client ≡ consented_scope (left_under under history) owner client
  left_consented owner client =
      consented_left under (is_beyond_rules under list) list owner client ∙ ap (mask_under under owner) (alike.consented owner client)
      ∙ sym (consented_left under (is_beyond_rules under history) history owner client)

  left_alike : IsHistory history m → IsHistory list m → TellsAlike (left_under under history) (left_under under list) m
  left_alike happened sound = record {
    unexpired = left_unexpired;
    spent = left_spent happened sound;
    families = left_families happened sound;
    new = λ family new. (let was = greatest_left under (is_beyond_rules under history) history in
        let now = greatest_left under (is_beyond_rules under list) list in
        let tells = alike.new family in grind (arith, was, now, tells, new));
    consented = left_consented;
    consents = same_kept (left_under under list) (left_under under history) left_consented;
    hooks = hooks_left under (is_beyond_rules under list) list ∙ alike.hooks ∙ sym (hooks_left under (is_beyond_rules under history) history);
  }

pub is_left_still : (under : Under) (list history : List Event) (m : ℕ) → IsLeftOf list history m →
    IsLeftOf (left_under under list) (left_under under history) m
is_left_still under list history m of = record {
  happened = whole_left under (is_beyond_rules under history) history m of.happened;
  sound = sound_left under (is_beyond_rules under list) list m of.sound;
  alike = left_alike under list history m of.alike of.happened.is_history of.sound.is_history;
}

pub greatest_still : (under : Under) (list history : List Event) → greatest_family list ≡ greatest_family history →
    greatest_family (left_under under list) ≡ greatest_family (left_under under history)
greatest_still under list history same =
    greatest_left under (is_beyond_rules under list) list ∙ same ∙ sym (greatest_left under (is_beyond_rules under history) history)
