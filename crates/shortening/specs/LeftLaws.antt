-- What is left of a history has what every history has, and what stays is told as before.
use Rattle.std.proofs.Common.{◌≡◌, ◌≤◌, ℕ, ◌+◌, List, [], ◌∷◌, ◌++◌, Bool, true, false, cond, Option, None, Some, append_assoc, refl, ap, subst, ◌∙◌, arith}
use Rattle.std.specs.Prelude.{find, count_by, option_map, is_some}
use Rattle.std.specs.List.{list_all, cons_option}
use Rattle.std.proofs.lemmas.Bool.Decides.{nat_tests}
use Rattle.std.proofs.lemmas.List.{append-nil}
use Rattle.std.proofs.lemmas.Bool.{eq-eqb}
use Rattle.consent.specs.ListLaws.{list_all-wider, count_by-cons, find-uncounted}
use Rattle.consent.specs.History.{Event, Change, event_at, Grant, grants, grant_of, is_named, is_code_of, greatest_family, is_new, Terms, terms_of}
use Rattle.consent.specs.History.{code_terms, lowers, has_ended, consent_of, last_consent, is_kin, are_kin, all_past, IsHistory, CanStand, are_in_order}
use Rattle.consent.specs.History.Change.{Consented, CodeGiven, Issued, FamilyEnded}
use Rattle.shortening.specs.Lists.{AllStand}
use Rattle.shortening.specs.Left.{left_of, matters, is_superseded, any_lowers, code_terms_of, MayGo, Keeps, KeepsFamily}

-- WHATEVER GOES

module _ (goes : Event → List Event → Bool) where
  pub left-append : (xs ys rest : List Event) → left_of goes (xs ++ ys) rest ≡ left_of goes xs (ys ++ rest) ++ left_of goes ys rest
  left-append [] ys rest = refl
  left-append (x ∷ xs) ys rest =
      let more = left-append xs ys rest in
      let after = ap (goes x) (append_assoc xs ys rest) in grind (arith, more, after)

  -- all that are left pass what all passed
  pub all_left : (p : Grant → Bool) (es rest : List Event) → list_all p (grants es) ≡ true → list_all p (grants (left_of goes es rest)) ≡ true
  all_left p [] rest all = refl
  all_left p (e ∷ es) rest all = let more = all_left p es rest in grind (arith, more, all)

  count_option : (p : Grant → Bool) (o : Option Grant) (gs : List Grant) → count_by p (cons_option o gs) ≡ count_by p (cons_option o []) + count_by p gs
  count_option p None gs = omega arith
  count_option p (Some g) gs = let a = count_by-cons p g gs in let b = count_by-cons p g [] in grind (arith, a, b)

  fewer_step : (p : Grant → Bool) (b : Bool) (e : Event) (xs ys : List Event) → count_by p (grants xs) ≤ count_by p (grants ys) →
      count_by p (grants (cond b xs (e ∷ xs))) ≤ count_by p (grants (e ∷ ys))
  fewer_step p true e xs ys le = let y = count_option p (grant_of e) (grants ys) in omega (arith, y)
  fewer_step p false e xs ys le =
      let x = count_option p (grant_of e) (grants xs) in let y = count_option p (grant_of e) (grants ys) in omega (arith, x, y)

  pub fewer_left : (p : Grant → Bool) (es rest : List Event) → count_by p (grants (left_of goes es rest)) ≤ count_by p (grants es)
  fewer_left p [] rest = omega arith
  fewer_left p (e ∷ es) rest = fewer_step p (goes e (es ++ rest)) e (left_of goes es rest) es (fewer_left p es rest)

  past_left : (m : ℕ) (es rest : List Event) → all_past es m ≡ true → all_past (left_of goes es rest) m ≡ true
  past_left m [] rest past = refl
  past_left m (e ∷ es) rest past = let more = past_left m es rest in grind (arith, more, past)

  pub is_history-left : (es rest : List Event) (m : ℕ) → IsHistory es m → IsHistory (left_of goes es rest) m
  is_history-left es rest m is = record {
    past = past_left m es rest is.past;
    single = λ digest. (let a = fewer_left (is_named digest m) es rest in let b = is.single digest in omega (arith, a, b));
    one_code = λ family. (let a = fewer_left (is_code_of family) es rest in let b = is.one_code family in omega (arith, a, b));
    kin = all_left (λ g. list_all (are_kin g) (grants (left_of goes es rest))) es rest
        (list_all-wider (λ g. list_all (are_kin g) (grants es)) (λ g. list_all (are_kin g) (grants (left_of goes es rest))) (grants es) (λ g. all_left (are_kin g) es rest) is.kin);
  }

  greatest_step : (b : Bool) (e : Event) (xs ys : List Event) → greatest_family xs ≤ greatest_family ys → greatest_family (cond b xs (e ∷ xs)) ≤ greatest_family (e ∷ ys)
  greatest_step true e xs ys le = omega (arith, le)
  greatest_step false e xs ys le = omega (arith, le)

  -- no family has a greater number
  pub greatest_left : (es rest : List Event) → greatest_family (left_of goes es rest) ≤ greatest_family es
  greatest_left [] rest = omega arith
  greatest_left (e ∷ es) rest = greatest_step (goes e (es ++ rest)) e (left_of goes es rest) es (greatest_left es rest)

  -- so a new number is one
  pub new_left : (family : ℕ) (es rest : List Event) → is_new es family ≡ true → is_new (left_of goes es rest) family ≡ true
  new_left family es rest new = let le = greatest_left es rest in grind (arith, nat_tests, le, new)

  pub in_order-left : (n m : ℕ) (es rest : List Event) → n ≤ m → are_in_order m es ≡ true → are_in_order n (left_of goes es rest) ≡ true
  in_order-left n m [] rest le order = refl
  in_order-left n m (e ∷ es) rest le order =
      let now : m ≤ e.moment = grind (arith, nat_tests, order) in
      let less = in_order-left n e.moment es rest (omega (arith, le, now)) (grind (arith, order)) in
      let more = in_order-left e.moment e.moment es rest (omega arith) (grind (arith, order)) in grind (arith, nat_tests, le, now, less, more)

  none_left : (p : Grant → Bool) (es rest : List Event) → find p (grants es) ≡ None → find p (grants (left_of goes es rest)) ≡ None
  none_left p [] rest none = refl
  none_left p (e ∷ es) rest none = let more = none_left p es rest in grind (arith, more, none)

  -- what may stand after all may after what is left
  can_stand_left : (t : ℕ) (change : Change) (es rest : List Event) → CanStand es t change → CanStand (left_of goes es rest) t change
  can_stand_left t (CodeGiven f code digest) es rest can = (new_left f es rest can.0, none_left (is_named digest t) es rest can.1)
  can_stand_left t (Issued f parties token) es rest can =
      (all_left (is_kin f parties.client parties.owner) es rest can.0, none_left (is_named token.digest t) es rest can.1)
  can_stand_left t _ es rest can = tt

  stand_step : (b : Bool) (e : Event) (before es after : List Event) → goes e (es ++ after) ≡ b → CanStand before e.moment e.change →
      AllStand (left_of goes (before ++ e ∷ []) (es ++ after)) (left_of goes es after) →
      AllStand (left_of goes before (e ∷ es ++ after)) (cond b (left_of goes es after) (e ∷ left_of goes es after))
  stand_step true e before es after is can more =
      subst (λ (h : List Event). AllStand h (left_of goes es after))
      (left-append before (e ∷ []) (es ++ after)
      ∙ ap (λ b. left_of goes before (e ∷ es ++ after) ++ cond b [] (e ∷ [])) is ∙ append-nil (left_of goes before (e ∷ es ++ after))) more
  stand_step false e before es after is can more = (
    can_stand_left e.moment e.change before (e ∷ es ++ after) can,
    subst (λ (h : List Event). AllStand h (left_of goes es after))
        (left-append before (e ∷ []) (es ++ after) ∙ ap (λ b. left_of goes before (e ∷ es ++ after) ++ cond b [] (e ∷ [])) is) more,
  )

  -- so whatever goes, what is left may stand as it is
  pub all_stand-left : (before es after : List Event) → AllStand before es → AllStand (left_of goes before (es ++ after)) (left_of goes es after)
  all_stand-left before [] after all = tt
  all_stand-left before (e ∷ es) after all =
      stand_step (goes e (es ++ after)) e before es after refl all.0 (all_stand-left (before ++ e ∷ []) es after all.1)

-- WHAT STAYS

-- a superseded consent has a later one
pub superseded_there : (family_stays : ℕ → Bool) (owner client : ℕ) (es rest : List Event) → is_superseded family_stays owner client (es ++ rest) ≡ true →
    is_superseded family_stays owner client rest ≡ false → is_some (last_consent es owner client) ≡ true
superseded_there family_stays owner client [] rest is not_yet = cc
superseded_there family_stays owner client (e ∷ es) rest is not_yet =
    let more = superseded_there family_stays owner client es rest in grind (arith, more, is, not_yet)

module _ (goes : Event → List Event → Bool) (history : List Event) (family_stays : ℕ → Bool) (keeps : Keeps goes history family_stays) where
  abbrev left : List Event → List Event → List Event
  left es rest = left_of goes es rest

  needed_by : (change : Change) (later : List Event) (b : Bool) → (b ≡ true → MayGo history family_stays change later) →
      matters family_stays change ≡ true → b ≡ false
  needed_by (CodeGiven f code digest) later true may matter = let gone = may refl in cc
  needed_by (FamilyEnded f) later true may matter = let gone = may refl in cc
  needed_by change later false may matter = refl
  needed_by _ later true may matter = cc

  needed : (e : Event) (later : List Event) → matters family_stays e.change ≡ true → goes e later ≡ false
  needed e later = needed_by e.change later (goes e later) (keeps e later)

  -- CONSENTS

  superseded_if : (owner client : ℕ) (change : Change) (later : List Event) (b : Bool) → (b ≡ true → MayGo history family_stays change later) →
      is_some (consent_of owner client change) ≡ true → b ≡ true → is_superseded family_stays owner client later ≡ true
  superseded_if owner client (Consented o c mask) later b may of gone =
      let super = (may gone).superseded in
      let same_owner : o ≡ owner = grind (arith, nat_tests, of) in
      let same_client : c ≡ client = grind (arith, nat_tests, of) in cc
  superseded_if owner client _ later b may of gone = cc

  -- the last consent of the two, where no code that stays follows
  pub last_consent_left : (owner client : ℕ) (es rest : List Event) → is_superseded family_stays owner client rest ≡ false →
      last_consent (left es rest) owner client ≡ last_consent es owner client
  last_consent_left owner client [] rest last = refl
  last_consent_left owner client (e ∷ es) rest last =
      let more = last_consent_left owner client es rest last in
      let super = superseded_if owner client e.change (es ++ rest) (goes e (es ++ rest)) (keeps e (es ++ rest)) in
      let there = superseded_there family_stays owner client es rest in grind (arith, more, super, there, last)

  -- FAMILIES

  code_left : (family : ℕ) → family_stays family ≡ true → (es rest : List Event) →
      find (is_code_of family) (grants (left es rest)) ≡ find (is_code_of family) (grants es)
  code_left family stays [] rest = refl
  code_left family stays (e ∷ es) rest =
      let more = code_left family stays es rest in
      let kept = needed e (es ++ rest) in grind (arith, nat_tests, more, kept, stays)

  pub code_terms_left : (family : ℕ) → family_stays family ≡ true → (es rest : List Event) →
      code_terms (left es rest) family ≡ code_terms es family
  code_terms_left family stays es rest = ap (option_map terms_of) (code_left family stays es rest)

  -- whether a consent lowers the terms of a family that stays
  lets_lower : (family : ℕ) (terms : Terms) → family_stays family ≡ true → code_terms history family ≡ Some terms →
      (change : Change) (later : List Event) (b : Bool) → (b ≡ true → MayGo history family_stays change later) →
      b ≡ true → lowers terms change ≡ true → any_lowers terms later ≡ true
  lets_lower family terms stays at (Consented o c mask) later b may gone low = (may gone).lowered family terms stays at low
  lets_lower family terms stays at _ later b may gone low = cc

  lowers_left : (family : ℕ) (terms : Terms) → family_stays family ≡ true → code_terms history family ≡ Some terms → (es : List Event) →
      any_lowers terms (left es []) ≡ any_lowers terms es
  lowers_left family terms stays at [] = refl
  lowers_left family terms stays at (e ∷ es) =
      let more = lowers_left family terms stays at es in
      let lets = lets_lower family terms stays at e.change (es ++ []) (goes e (es ++ [])) (keeps e (es ++ [])) in
      let all = append-nil es in grind (arith, more, lets, all)

  -- the family's code in the events is its code
  abbrev IsItsCode : ℕ → List Event → Type 0
  IsItsCode family es = (terms : Terms) → code_terms es family ≡ Some terms → code_terms history family ≡ Some terms

  ended_step : (family : ℕ) → family_stays family ≡ true → (b : Bool) (moment : ℕ) (change : Change) (es : List Event) →
      (matters family_stays change ≡ true → b ≡ false) → IsItsCode family (event_at moment change ∷ es) →
      has_ended (left es []) family ≡ has_ended es family →
      has_ended (cond b (left es []) (event_at moment change ∷ left es [])) family ≡ has_ended (event_at moment change ∷ es) family
  ended_step family stays b moment (CodeGiven f code digest) es kept code_is more =
      let here : f ≡ family → code_terms (event_at moment (CodeGiven f code digest) ∷ es) family ≡ Some (code_terms_of code) =
      λ same. (let is = eq-eqb f family same in grind (arith, is)) in
      let lowered = λ (same : f ≡ family). lowers_left family (code_terms_of code) stays (code_is (code_terms_of code) (here same)) es in
      grind (arith, nat_tests, stays, kept, lowered, more)
  ended_step family stays b moment (FamilyEnded f) es kept code_is more = grind (arith, nat_tests, stays, kept, more)
  ended_step family stays b moment _ es kept code_is more = grind (arith, more)

  fewer_codes : (family : ℕ) (e : Event) (es : List Event) → count_by (is_code_of family) (grants (e ∷ es)) ≤ 1 → IsItsCode family (e ∷ es) → IsItsCode family es
  fewer_codes family e es one code_is terms at =
      code_is terms (by (grant_of e) one)
    where
      by : (o : Option Grant) → count_by (is_code_of family) (cons_option o (grants es)) ≤ 1 →
          option_map terms_of (find (is_code_of family) (cons_option o (grants es))) ≡ Some terms
      by None one = at
      by (Some g) one =
          let c = count_by-cons (is_code_of family) g (grants es) in
          let none = find-uncounted (is_code_of family) (grants es) in grind (arith, c, none, one, at)

  count_less : (family : ℕ) (e : Event) (es : List Event) → count_by (is_code_of family) (grants (e ∷ es)) ≤ 1 → count_by (is_code_of family) (grants es) ≤ 1
  count_less family e es one = let c = count_option goes (is_code_of family) (grant_of e) (grants es) in omega (arith, c, one)

  ended_left : (family : ℕ) → family_stays family ≡ true → (es : List Event) → count_by (is_code_of family) (grants es) ≤ 1 → IsItsCode family es →
      has_ended (left es []) family ≡ has_ended es family
  ended_left family stays [] one code_is = refl
  ended_left family stays (e ∷ es) one code_is =
      ended_step family stays (goes e (es ++ [])) e.moment e.change es (needed e (es ++ [])) code_is
      (ended_left family stays es (count_less family e es one) (fewer_codes family e es one code_is))

  pub keeps_family : (family : ℕ) → family_stays family ≡ true → count_by (is_code_of family) (grants history) ≤ 1 →
      KeepsFamily history (left history []) family
  keeps_family family stays one =
      record { terms = code_terms_left family stays history []; ended = ended_left family stays history one (λ terms at. at) }
