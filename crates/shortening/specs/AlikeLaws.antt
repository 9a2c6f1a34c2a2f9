-- Two histories that tell the same from a moment on do so as they grow.
use Rattle.std.proofs.Common.{◌≡◌, ◌≤◌, ◌<◌, ℕ, List, [], ◌∷◌, ◌++◌, Bool, true, false, Option, None, Some, append_assoc, refl, ap, sym, subst, ◌∙◌, arith}
use Rattle.std.specs.Prelude.{◌||◌, find, count_by, filter, max, nat_lt}
use Rattle.std.specs.Option.{option_or}
use Rattle.std.specs.List.{list_any}
use Rattle.std.proofs.lemmas.Bool.Decides.{nat_tests}
use Rattle.std.proofs.lemmas.List.{append-nil}
use Rattle.std.proofs.lemmas.List.Elements.{filter-append}
use Rattle.std.proofs.lemmas.List.Folds.{list_any-append}
use Rattle.consent.specs.ListLaws.{find-passes, any-found_by, any-wider}
use Rattle.consent.specs.History.{Event, Change, event_at, with_change, Grant, grants, grant_at, is_named, is_unexpired, unexpired_count, greatest_family, is_new, is_live_in}
use Rattle.consent.specs.History.{is_host, is_home, lives, code_terms, live_grant, where_good, consents_kept, IsHistory, CanFollow, AllFollow, are_in_order, last_moment}
use Rattle.consent.specs.History.Change.{Consented, CodeGiven, Issued, FamilyEnded, Numbered}
use Rattle.consent.specs.declared.parties.Parties.{Parties}
use Rattle.consent.specs.Growth.{one_unless_empty}
use Rattle.consent.specs.GrowthLaws.{grants-append, code_terms-append, greatest_family-append, has_ended-push, is_spent-push, last_consent-push, consents_kept-push, consents_kept-push_other}
use Rattle.consent.specs.HistoryLaws.{code_terms-new, has_ended-new, is_history-later, is_history-push, can_stand}
use Rattle.shortening.specs.FilterLaws.{any-filter, filter-filter, count-filter, lives-before}
use Rattle.shortening.specs.Hooks.{hook_by}
use Rattle.shortening.specs.HooksLaws.{is_left, hooks-push}
use Rattle.shortening.specs.Left.{KeepsFamily}
use Rattle.shortening.specs.Shortened.{unexpired, TellsAlike}
use Rattle.shortening.specs.ShortenedLaws.{named_at}

-- WHAT IS TOLD ALIKE

module _ (history left : List Event) (m : ℕ) (alike : TellsAlike history left m) where
  pub grant_at-alike : (digest : List ℕ) (t : ℕ) → m ≤ t → grant_at left digest t ≡ grant_at history digest t
  grant_at-alike digest t le = sym (named_at left digest m t le) ∙ ap (find (is_named digest t)) alike.unexpired ∙ named_at history digest m t le

  any_alike : (p : Grant → Bool) → ((g : Grant) → p g ≡ true → is_unexpired m g ≡ true) → list_any p (grants left) ≡ list_any p (grants history)
  any_alike p wide =
      sym (any-filter (is_unexpired m) p (grants left) wide) ∙ ap (list_any p) alike.unexpired ∙ any-filter (is_unexpired m) p (grants history) wide

  pub lives-alike : (family t : ℕ) → m ≤ t → lives left t family ≡ lives history t family
  lives-alike family t le = any_alike (is_live_in family t) (λ g is. grind (arith, nat_tests, le, is))

  pub unexpired_count-alike : (t : ℕ) → m ≤ t → unexpired_count left t ≡ unexpired_count history t
  unexpired_count-alike t le =
      let wide = λ (g : Grant) (is : is_unexpired t g ≡ true). (let e : is_unexpired m g ≡ true = grind (arith, nat_tests, le, is) in e) in
      sym (count-filter (is_unexpired m) (is_unexpired t) (grants left) wide) ∙ ap (count_by (is_unexpired t)) alike.unexpired
      ∙ count-filter (is_unexpired m) (is_unexpired t) (grants history) wide

  pub unexpired-alike : (t : ℕ) → m ≤ t → unexpired left t ≡ unexpired history t
  unexpired-alike t le =
      let wide = λ (g : Grant) (is : is_unexpired t g ≡ true). (let e : is_unexpired m g ≡ true = grind (arith, nat_tests, le, is) in e) in
      sym (filter-filter (is_unexpired m) (is_unexpired t) (grants left) wide) ∙ ap (filter (is_unexpired t)) alike.unexpired
      ∙ filter-filter (is_unexpired m) (is_unexpired t) (grants history) wide

  -- the family of what a digest names has its terms, and has ended where it had
  pub named_family-alike : (digest : List ℕ) (t : ℕ) (g : Grant) → m ≤ t → grant_at history digest t ≡ Some g → KeepsFamily history left g.family
  named_family-alike digest t g le at =
      let passes = find-passes (is_named digest t) (grants history) g at in
      alike.families g.family (any-found_by (is_named digest t) (is_live_in g.family m) (grants history) g at (grind (arith, nat_tests, le, passes)))

  good_alike : (digest : List ℕ) (t : ℕ) → m ≤ t → (o : Option Grant) → grant_at history digest t ≡ o →
      where_good left digest t o ≡ where_good history digest t o
  good_alike digest t le None at = refl
  good_alike digest t le (Some g) at =
      let ended = (named_family-alike digest t g le at).ended in
      let spent = alike.spent digest t le in grind (arith, ended, spent)

  pub live_grant-alike : (digest : List ℕ) (t : ℕ) → m ≤ t → live_grant left digest t ≡ live_grant history digest t
  live_grant-alike digest t le = ap (where_good left digest t) (grant_at-alike digest t le) ∙ good_alike digest t le (grant_at history digest t) refl

  -- WHAT CAN FOLLOW

  -- a host in the one is in the other
  host_alike : (t family : ℕ) (parties : Parties) → m ≤ t → list_any (is_host t family parties) (grants left) ≡ list_any (is_host t family parties) (grants history)
  host_alike t family parties le = any_alike (is_host t family parties) (λ g is. grind (arith, nat_tests, le, is))

  -- a new family has nothing in either
  new_family : (family : ℕ) → is_new history family ≡ true → KeepsFamily history left family
  new_family family new = record {
    terms = code_terms-new left family (alike.new family new) ∙ sym (code_terms-new history family new);
    ended = has_ended-new left family (alike.new family new) ∙ sym (has_ended-new history family new);
  }

  -- and a home lives
  home_family : (t family : ℕ) (parties : Parties) → m ≤ t → (b : Bool) → is_new history family ≡ b → (b || is_home history t family parties) ≡ true →
      KeepsFamily history left family
  home_family t family parties le true new home = new_family family new
  home_family t family parties le false new home =
      alike.families family (any-wider (is_live_in family m) (is_host t family parties) (grants history) (λ g is. grind (arith, nat_tests, le, is)) (grind (arith, home)))

  home_alike : (t family : ℕ) (parties : Parties) → m ≤ t → (is_new history family || is_home history t family parties) ≡ true →
      (is_new left family || is_home left t family parties) ≡ true
  home_alike t family parties le home =
      let new = alike.new family in
      let host = host_alike t family parties le in
      let ended = (home_family t family parties le (is_new history family) refl home).ended in grind (arith, new, host, ended, home)

  pub can_follow-alike : (t : ℕ) (change : Change) → m ≤ t → CanFollow history t change → CanFollow left t change
  can_follow-alike t (CodeGiven f code digest) le can = (alike.new f can.0, grant_at-alike digest t le ∙ can.1)
  can_follow-alike t (Issued f parties token) le can = (home_alike t f parties le can.0, grant_at-alike token.digest t le ∙ can.1)
  can_follow-alike t (FamilyEnded f) le can = lives-alike f t le ∙ can
  can_follow-alike t (Numbered last) le can = can
  can_follow-alike t _ le can = tt

  -- LATER

  pub alike-later : (t : ℕ) → m ≤ t → TellsAlike history left t
  alike-later t le = record {
    unexpired = unexpired-alike t le;
    spent = λ digest u later. alike.spent digest u (omega arith);
    families = λ family live. alike.families family (lives-before history m t family le live);
    new = alike.new;
    consented = alike.consented;
    consents = alike.consents;
    hooks = alike.hooks;
  }

-- what tells as one does that tells as a third tells as this does
pub alike-trans : (history left less : List Event) (m t : ℕ) → m ≤ t → TellsAlike history left m → TellsAlike left less t → TellsAlike history less t
alike-trans history left less m t le first second =
    let now = alike-later history left m first t le in record {
      unexpired = second.unexpired ∙ now.unexpired;
      spent = λ digest u later. second.spent digest u later ∙ now.spent digest u later;
      families = λ family live. (let a = now.families family live in
          let b = second.families family (lives-alike history left m first family t le ∙ live) in
          record { terms = b.terms ∙ a.terms; ended = b.ended ∙ a.ended });
      new = λ family new. second.new family (now.new family new);
      consented = λ owner client. second.consented owner client ∙ now.consented owner client;
      consents = second.consents ∙ now.consents;
      hooks = second.hooks ∙ now.hooks;
    }

-- GROWTH

lives-push : (history : List Event) (e : Event) (t family : ℕ) → lives (history ++ e ∷ []) t family ≡ (lives history t family || lives (e ∷ []) t family)
lives-push history e t family =
    ap (list_any (is_live_in family t)) (grants-append history (e ∷ [])) ∙ list_any-append (is_live_in family t) (grants history) (grants (e ∷ []))

-- a family that lives with the change lived before it, or is a new one
pub known_or_new : (history : List Event) (t : ℕ) (change : Change) (family : ℕ) → CanFollow history t change →
    lives (with_change history t change) t family ≡ true → lives history t family ≡ false → is_new history family ≡ true
known_or_new history t (CodeGiven f code digest) family can live dead =
    let pushed = lives-push history (event_at t (CodeGiven f code digest)) t family in grind (arith, nat_tests, pushed, can.0, live, dead)
known_or_new history t (Issued f parties token) family can live dead = by (is_new history f) refl can.0
  where
    same : f ≡ family
    same = let both = lives-push history (event_at t (Issued f parties token)) t family in grind (arith, nat_tests, both, live, dead)

    by : (b : Bool) → is_new history f ≡ b → (b || is_home history t f parties) ≡ true → is_new history family ≡ true
    by true new home = ap (is_new history) (sym same) ∙ new
    by false new home =
        let lived = any-wider (is_live_in f t) (is_host t f parties) (grants history) (λ g is. grind (arith, is)) (grind (arith, home)) in
        absurd (cc (ap (lives history t) same, lived, dead))
known_or_new history t change family can live dead = let both = lives-push history (event_at t change) t family in grind (arith, both, live, dead)

module _ (history left : List Event) (m t : ℕ) (change : Change) where
  module _ (first : IsHistory history m) (second : IsHistory left m) (le : m ≤ t) (can : CanFollow history t change) (alike : TellsAlike history left m) where
    abbrev now : Event
    now = event_at t change

    family_push : (family : ℕ) → KeepsFamily history left family → KeepsFamily (with_change history t change) (with_change left t change) family
    family_push family same = record {
      terms = code_terms-append left (now ∷ []) family ∙ ap (λ o. option_or o (code_terms (now ∷ []) family)) same.terms ∙ sym (code_terms-append history (now ∷ []) family);
      ended = (let a = has_ended-push history now family (first.one_code family) in
          let b = has_ended-push left now family (second.one_code family) in
          let terms = same.terms in let ended = same.ended in grind (arith, a, b, terms, ended));
    }

    family_of : (family : ℕ) (b : Bool) → lives history t family ≡ b → lives (with_change history t change) t family ≡ true → KeepsFamily history left family
    family_of family true is live = alike.families family (lives-before history m t family le is)
    family_of family false is live = new_family history left m alike family (known_or_new history t change family can live is)

    consents_push : (change : Change) → consents_kept (with_change left t change) ≡ consents_kept (with_change history t change)
    consents_push (Consented o c mask) =
        let a = consents_kept-push history t o c mask in let b = consents_kept-push left t o c mask in
        let same = ap one_unless_empty (alike.consented o c) in let all = alike.consents in omega (arith, a, b, same, all)
    consents_push change = consents_kept-push_other left (event_at t change) refl ∙ alike.consents ∙ sym (consents_kept-push_other history (event_at t change) refl)

    unexpired_push : (es : List Event) → unexpired (es ++ now ∷ []) t ≡ unexpired es t ++ unexpired (now ∷ []) t
    unexpired_push es = ap (filter (is_unexpired t)) (grants-append es (now ∷ [])) ∙ filter-append (is_unexpired t) (grants es) (grants (now ∷ []))

    new_push : (family h l e : ℕ) → (nat_lt h family ≡ true → nat_lt l family ≡ true) → greatest_family (with_change history t change) ≡ max h e →
        greatest_family (with_change left t change) ≡ max l e → is_new (with_change history t change) family ≡ true → is_new (with_change left t change) family ≡ true
    new_push family h l e same a b new =
        let whole : max h e < family = grind (arith, nat_tests, a, new) in
        let small : h < family = omega (arith, whole) in
        let old : nat_lt h family ≡ true = grind (arith, nat_tests, small) in
        let here : l < family = (let less = same old in grind (arith, nat_tests, less)) in
        let all : max l e < family = omega (arith, whole, here) in grind (arith, nat_tests, b, all)

    pub alike-push : TellsAlike (with_change history t change) (with_change left t change) t
    alike-push = record {
      unexpired = unexpired_push left ∙ ap (λ gs. gs ++ unexpired (now ∷ []) t) (unexpired-alike history left m alike t le) ∙ sym (unexpired_push history);
      spent = λ digest u later. (let a = is_spent-push history now digest u in let b = is_spent-push left now digest u in
          let named = grant_at-alike history left m alike digest u (omega arith) in
          let spent = alike.spent digest u (omega arith) in grind (arith, a, b, named, spent));
      families = λ family live. family_push family (family_of family (lives history t family) refl live);
      new = λ family new. (let a = greatest_family-append history (now ∷ []) in
          let b = greatest_family-append left (now ∷ []) in
          let same = alike.new family in
          new_push family (greatest_family history) (greatest_family left) (greatest_family (now ∷ [])) same a b new);
      consented = λ owner client. (let a = last_consent-push history now owner client in let b = last_consent-push left now owner client in
          let same = alike.consented owner client in grind (arith, a, b, same));
      consents = consents_push change;
      hooks = hooks-push left now ∙ ap (λ hooks. filter (is_left change) hooks ++ hook_by change []) alike.hooks ∙ sym (hooks-push history now);
    }

-- MORE CHANGES

-- what follows the one follows the other, and the two tell the same with it
pub record Goes (history left : List Event) (m : ℕ) (es : List Event) : Type 0 where
  pub follow : AllFollow left es
  pub alike : TellsAlike (history ++ es) (left ++ es) (last_moment m es)

pub alike-grown : (history left : List Event) (m : ℕ) (es : List Event) → IsHistory history m → IsHistory left m → TellsAlike history left m →
    AllFollow history es → are_in_order m es ≡ true → Goes history left m es
alike-grown history left m [] first second alike all order = record { follow = tt; alike = simp append-nil alike }
alike-grown history left m (e ∷ es) first second alike all order =
    let t = e.moment in
    let le : m ≤ t = grind (arith, nat_tests, order) in
    let can = can_follow-alike history left m alike t e.change le all.0 in
    let one = is_history-push history t e.change (is_history-later history m t le first) (can_stand history m t e.change first all.0) in
    let other = is_history-push left t e.change (is_history-later left m t le second) (can_stand left m t e.change second can) in
    let more = alike-grown (history ++ e ∷ []) (left ++ e ∷ []) t es one other (alike-push history left m t e.change first second le all.0 alike) all.1
    (grind (arith, order)) in record {
      follow = (can, more.follow);
      alike = subst (λ (h : List Event). TellsAlike h (left ++ e ∷ es) (last_moment t es)) (append_assoc history (e ∷ []) es)
          (subst (λ (h : List Event). TellsAlike ((history ++ e ∷ []) ++ es) h (last_moment t es)) (append_assoc left (e ∷ []) es) more.alike);
    }
