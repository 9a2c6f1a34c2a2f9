-- What is left of a history without what is needless at a moment tells the same from then on.
use Rattle.std.proofs.Common.{◌≡◌, ◌≤◌, ◌<◌, ℕ, ◌+◌, List, [], ◌∷◌, ◌++◌, Bool, true, false, Option, None, Some, refl, ap, sym, ◌∙◌, arith}
use Rattle.std.specs.Prelude.{◌||◌, find, is_some, unwrap_or, not, filter}
use Rattle.std.specs.List.{list_any, list_all}
use Rattle.std.proofs.lemmas.Bool.Decides.{nat_tests}
use Rattle.std.proofs.lemmas.List.{append-nil}
use Rattle.std.proofs.lemmas.Slice.Eq.{bytes_eq-Decides}
use Rattle.consent.specs.History.{Event, Change, Grant, grants, grant_at, gives, is_named, is_unexpired, spends, is_spent}
use Rattle.consent.specs.History.{family_of, greatest_family, is_new, is_live_in, lives, last_consent, consents_kept, code_terms, IsHistory, are_in_order}
use Rattle.consent.specs.History.Change.{Spent, Consented, CodeGiven, FamilyEnded}
use Rattle.consent.specs.GrowthLaws.{is_spent-unnamed}
use Rattle.consent.specs.ListLaws.{list_all-wider}
use Rattle.consent.specs.HistoryLaws.{named_before}
use Rattle.shortening.specs.FilterLaws.{find-filter, find-narrower_none}
use Rattle.shortening.specs.Lists.{AllStand}
use Rattle.shortening.specs.Hooks.{hooks_set, takes}
use Rattle.shortening.specs.Left.{left_of, is_superseded, MayGo, Keeps}
use Rattle.shortening.specs.LeftLaws.{all_stand-left, in_order-left, new_left, keeps_family, last_consent_left, superseded_there, is_history-left}
use Rattle.shortening.specs.Shortened.{unexpired, is_lowered_later, is_needless, shortened, GoNeedless, TellsAlike, is_of}

-- one of the events is a Spent of the digest
abbrev any_spends : List ℕ → List Event → Bool
any_spends digest events = list_any (λ e. spends digest e.change) events

-- what a test for a later moment tells of the unexpired it tells of all
pub named_at : (history : List Event) (digest : List ℕ) (m t : ℕ) → m ≤ t → find (is_named digest t) (unexpired history m) ≡ grant_at history digest t
named_at history digest m t le = find-filter (is_unexpired m) (is_named digest t) (grants history) (λ g is. grind (arith, nat_tests, le, is))

-- what holds of the families of all that is unexpired holds of each that lives
pub at_family : (q : ℕ → Bool) (m family : ℕ) (gs : List Grant) → list_all (λ g. q g.family) (filter (is_unexpired m) gs) ≡ true →
    list_any (is_live_in family m) gs ≡ true → q family ≡ true
at_family q m family [] all live = cc
at_family q m family (g ∷ gs) all live = let more = at_family q m family gs in grind (arith, nat_tests, more, all, live)

-- what is unexpired is of a family that lives
pub unexpired_lives : (m : ℕ) (gs : List Grant) → list_all (λ g. not (is_unexpired m g) || list_any (is_live_in g.family m) gs) gs ≡ true
unexpired_lives m [] = refl
unexpired_lives m (g ∷ gs) =
    let more = list_all-wider (λ x. not (is_unexpired m x) || list_any (is_live_in x.family m) gs)
    (λ x. not (is_unexpired m x) || list_any (is_live_in x.family m) (g ∷ gs)) gs (λ x is. grind (arith, is)) (unexpired_lives m gs) in
    grind (arith, nat_tests, more)

module _ (goes : Event → List Event → Bool) (history : List Event) (m : ℕ) (spares : GoNeedless goes history m) where
  abbrev left : List Event → List Event
  left es = left_of goes es []

  keeps_by : (moment : ℕ) (change : Change) (later : List Event) → is_needless history m moment change later ≡ true → MayGo history (lives history m) change later
  keeps_by moment (Consented o c mask) later is = record {
    superseded = grind (arith, is);
    lowered = λ family terms live at low. (let all : list_all (λ g. is_lowered_later (Consented o c mask) later (code_terms history g.family)) (unexpired history m) ≡ true = grind (arith, is) in
        let here = at_family (λ f. is_lowered_later (Consented o c mask) later (code_terms history f)) m family (grants history) all live in
        grind (arith, here, at, low));
  }
  keeps_by moment (CodeGiven f code digest) later is = grind (arith, is)
  keeps_by moment (FamilyEnded f) later is = grind (arith, is)
  keeps_by moment _ later is = tt

  pub keeps_needed : Keeps goes history (lives history m)
  keeps_needed e later go = keeps_by e.moment e.change later (spares e later go)

  pub unexpired_left : (es rest : List Event) → unexpired (left_of goes es rest) m ≡ unexpired es m
  unexpired_left [] rest = refl
  unexpired_left (e ∷ es) rest =
      let more = unexpired_left es rest in let needless = spares e (es ++ rest) in grind (arith, more, needless)

  -- a Spent of what is named stays
  spent_needed : (digest : List ℕ) → is_some (grant_at history digest m) ≡ true → (moment : ℕ) (change : Change) (later : List Event) →
      spends digest change ≡ true → is_needless history m moment change later ≡ false
  spent_needed digest named moment (Spent d) later is = ap (λ d. not (is_some (grant_at history d m))) (sym ((bytes_eq-Decides digest d).0 is)) ∙ ap not named
  spent_needed digest named moment _ later is = cc

  any_spends_left : (digest : List ℕ) → is_some (grant_at history digest m) ≡ true → (es : List Event) → any_spends digest (left es) ≡ any_spends digest es
  any_spends_left digest named [] = refl
  any_spends_left digest named (e ∷ es) =
      let more = any_spends_left digest named es in
      let needless = spares e (es ++ []) in
      let needed = spent_needed digest named e.moment e.change (es ++ []) in grind (arith, more, needless, needed)

  not_given : (digest : List ℕ) (t : ℕ) → m ≤ t → (e : Event) (later : List Event) → goes e later ≡ true → gives digest t e ≡ false
  not_given digest t le e later go = let needless = spares e later go in grind (arith, nat_tests, needless, le)

  spent_left : (digest : List ℕ) (t : ℕ) → m ≤ t → is_some (grant_at history digest m) ≡ true → (es : List Event) →
      is_spent (left es) digest t ≡ is_spent es digest t
  spent_left digest t le named [] = refl
  spent_left digest t le named (e ∷ es) =
      let more = spent_left digest t le named es in
      let any = any_spends_left digest named es in
      let none = not_given digest t le e (es ++ []) in grind (arith, more, any, none)

  -- CONSENTS

  last_left : (owner client : ℕ) (es : List Event) → last_consent (left es) owner client ≡ last_consent es owner client
  last_left owner client es = last_consent_left goes history (lives history m) keeps_needed owner client es [] refl

  consents_left : (es : List Event) → consents_kept (left es) ≡ consents_kept es
  consents_left [] = refl
  consents_left (e ∷ es) =
      let more = consents_left es in
      let needless = spares e (es ++ []) in
      let last = λ (o c : ℕ). last_left o c es in
      let there = λ (o c : ℕ) (is : is_superseded (lives history m) o c (es ++ []) ≡ true). superseded_there (lives history m) o c es [] is refl in
      grind (arith, nat_tests, more, needless, there, last)

  named_left : (digest : List ℕ) (t : ℕ) → m ≤ t → grant_at (left history) digest t ≡ grant_at history digest t
  named_left digest t le = sym (named_at (left history) digest m t le) ∙ ap (find (is_named digest t)) (unexpired_left history []) ∙ named_at history digest m t le

  spent_by : (digest : List ℕ) (t : ℕ) → m ≤ t → (o : Option Grant) → grant_at history digest m ≡ o → is_spent (left history) digest t ≡ is_spent history digest t
  spent_by digest t le None at =
      let none = find-narrower_none (is_named digest m) (is_named digest t) (grants history) (λ g. named_before digest m t g le) at in
      is_spent-unnamed (left history) digest t (named_left digest t le ∙ none) ∙ sym (is_spent-unnamed history digest t none)
  spent_by digest t le (Some g) at = spent_left digest t le (ap is_some at) history

  -- all is told alike but the hooks, of which more has to be known
  pub tells_alike : IsHistory history m → hooks_set (left history) ≡ hooks_set history → TellsAlike history (left history) m
  tells_alike is hooks = record {
    unexpired = unexpired_left history [];
    spent = λ digest t le. spent_by digest t le (grant_at history digest m) refl;
    families = λ family live. keeps_family goes history (lives history m) keeps_needed family live (is.one_code family);
    new = λ family new. new_left goes family history [] new;
    consented = λ owner client. ap (λ o. unwrap_or o 0) (last_left owner client history);
    consents = consents_left history;
    hooks = hooks;
  }

-- SHORTENED

module _ (history : List Event) (m : ℕ) where
  abbrev needless_at : Event → List Event → Bool
  needless_at e later = is_needless history m e.moment e.change later

  abbrev short : List Event → List Event
  short es = left_of needless_at es []

  none_taken : (name : List ℕ) (es : List Event) → list_any (λ e. takes name e.change) (short es) ≡ false
  none_taken name [] = refl
  none_taken name (e ∷ es) = let more = none_taken name es in grind (arith, more)

  hooks_short : (es : List Event) → hooks_set (short es) ≡ hooks_set es
  hooks_short [] = refl
  hooks_short (e ∷ es) =
      let more = hooks_short es in
      let none = λ (name : List ℕ). none_taken name es in
      let all = append-nil es in grind (arith, more, none, all)

  pub shortened_tells : IsHistory history m → TellsAlike history (shortened m history) m
  shortened_tells is = tells_alike needless_at history m (λ e later go. go) is (hooks_short history)

  pub shortened_is_history : IsHistory history m → IsHistory (shortened m history) m
  shortened_is_history is = is_history-left needless_at history [] m is

  pub shortened_stands : AllStand [] history → AllStand [] (shortened m history)
  shortened_stands all = all_stand-left needless_at [] history [] all

  pub shortened_in_order : are_in_order 0 history ≡ true → are_in_order 0 (shortened m history) ≡ true
  shortened_in_order order = in_order-left needless_at 0 0 history [] (omega arith) order

-- THE GREATEST NUMBER

any_of : (family : ℕ) (es : List Event) → list_any (λ e. is_of family e.change) es ≡ true → family ≤ greatest_family es
any_of family [] any = cc
any_of family (e ∷ es) any = let more = any_of family es in
    by (is_of family e.change) refl more any
  where
    by : (b : Bool) → is_of family e.change ≡ b → (list_any (λ e. is_of family e.change) es ≡ true → family ≤ greatest_family es) →
        list_any (λ e. is_of family e.change) (e ∷ es) ≡ true → family ≤ greatest_family (e ∷ es)
    by true is more any = let same : unwrap_or (family_of e.change) 0 ≡ family = grind (arith, nat_tests, is) in omega (arith, same)
    by false is more any = let later = more (grind (arith, is, any)) in omega (arith, later)

-- what is left has the greatest number of the history where a change of it stays
pub greatest_stays : (history left : List Event) (m : ℕ) → TellsAlike history left m →
    list_any (λ e. is_of (greatest_family history) e.change) left ≡ true → greatest_family left ≡ greatest_family history
greatest_stays history left m alike any =
    let most = any_of (greatest_family history) left any in
    let new : is_new left (greatest_family history + 1) ≡ true = alike.new (greatest_family history + 1) (grind (arith, nat_tests)) in
    let least : greatest_family left < greatest_family history + 1 = grind (arith, nat_tests, new) in omega (arith, most, least)
