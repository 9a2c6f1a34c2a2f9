-- What is left of changes that were right is right.
use Rattle.std.proofs.Common.{◌≡◌, ℕ, List, [], ◌∷◌, ◌++◌, Bool, true, false, cond, Option, None, Some, append_assoc, refl, ap, sym, subst, ◌∙◌, arith}
use Rattle.std.specs.Prelude.{◌==◌, ◌||◌, find, not, option_map, unwrap_or}
use Rattle.std.specs.List.{list_all}
use Rattle.std.proofs.lemmas.Bool.{eq-eqb}
use Rattle.std.proofs.lemmas.List.{append-nil}
use Rattle.consent.specs.History.{Event, Change, event_at, Grant, Terms, grants, is_code, is_code_of, is_unexpired, code_terms, terms_of, has_ended, lives}
use Rattle.consent.specs.History.Change.{CodeGiven, Issued}
use Rattle.consent.specs.GrowthLaws.{opener-append, code_terms-append}
use Rattle.shortening.specs.FilterLaws.{find-narrower_none}
use Rattle.shortening.specs.Lists.{is_opened_by_code, CodesOpen}
use Rattle.shortening.specs.Left.{left_of, any_lowers, code_terms_of, Keeps}
use Rattle.shortening.specs.LeftLaws.{left-append, last_consent_left, code_terms_left}
use Rattle.shortening.specs.Rightness.{AsksLittle, AreRight}
use Rattle.shortening.specs.Shortened.{is_needless, shortened}
use Rattle.shortening.specs.ShortenedLaws.{keeps_needed, unexpired_lives}

-- CODES OPEN FAMILIES

no_code : (o : Option Grant) → option_map terms_of o ≡ None → o ≡ None
no_code None is = refl
no_code (Some g) is = cc

first_is_none : (family : ℕ) (gs : List Grant) → find (is_code_of family) gs ≡ None →
    unwrap_or (option_map (λ g. is_code g.kind) (find (λ g. g.family == family) gs)) false ≡ false
first_is_none family [] none = refl
first_is_none family (g ∷ gs) none = let more = first_is_none family gs in grind (arith, more, none)

-- a family without a code was opened by none
not_opened : (history : List Event) (family : ℕ) → code_terms history family ≡ None → is_opened_by_code history family ≡ false
not_opened history family none = first_is_none family (grants history) (no_code (find (is_code_of family) (grants history)) none)

-- and so it was among the first of the changes
codes_open-before : (before later : List Event) → CodesOpen (before ++ later) → CodesOpen before
codes_open-before before later opens family is =
    let first = opener-append before later family in
    let terms = code_terms-append before later family in
    let whole = opens family in
    let none : find (λ g. g.family == family) (grants before) ≡ None → code_terms before family ≡ None = λ none.
    ap (option_map terms_of) (find-narrower_none (λ g. g.family == family) (is_code_of family) (grants before) (λ g is. grind (arith, is)) none) in
    grind (arith, first, terms, whole, none, is)

-- WHAT HAD NOT ENDED

module _ (goes : Event → List Event → Bool) where
  lowers_less : (terms : Terms) (es rest : List Event) → any_lowers terms es ≡ false → any_lowers terms (left_of goes es rest) ≡ false
  lowers_less terms [] rest none = refl
  lowers_less terms (e ∷ es) rest none = let more = lowers_less terms es rest in grind (arith, more, none)

  ended_less : (family : ℕ) (b : Bool) (moment : ℕ) (change : Change) (es rest : List Event) →
      (has_ended es family ≡ false → has_ended (left_of goes es rest) family ≡ false) → has_ended (event_at moment change ∷ es) family ≡ false →
      has_ended (cond b (left_of goes es rest) (event_at moment change ∷ left_of goes es rest)) family ≡ false
  ended_less family b moment (CodeGiven f code digest) es rest more alive =
      let lowered = lowers_less (code_terms_of code) es rest in grind (arith, more, alive, lowered)
  ended_less family b moment _ es rest more alive = grind (arith, more, alive)

  not_ended_left : (family : ℕ) (es rest : List Event) → has_ended es family ≡ false → has_ended (left_of goes es rest) family ≡ false
  not_ended_left family [] rest alive = refl
  not_ended_left family (e ∷ es) rest alive = ended_less family (goes e (es ++ rest)) e.moment e.change es rest (not_ended_left family es rest) alive

-- OF FAMILIES THAT STAY

-- the change gives a code or token of a family that stays, or gives none
abbrev is_staying : (ℕ → Bool) → Change → Bool
is_staying family_stays (CodeGiven family code digest) = family_stays family
is_staying family_stays (Issued family parties token) = family_stays family
is_staying family_stays _ = true

-- each of the events is right that is of such a family
abbrev AreRightOf : (ℕ → Bool) → (List Event → Change → Type 0) → List Event → List Event → Type 0
AreRightOf family_stays Right before [] = Unit {0}
AreRightOf family_stays Right before (e ∷ later) =
    (is_staying family_stays e.change ≡ true → Right before e.change) × AreRightOf family_stays Right (before ++ e ∷ []) later

module _ (Right : List Event → Change → Type 0) (family_stays : ℕ → Bool) where
  of_all : (before es : List Event) → AreRight Right before es → AreRightOf family_stays Right before es
  of_all before [] all = tt
  of_all before (e ∷ es) all = (λ stays. all.0, of_all (before ++ e ∷ []) es all.1)

  -- where all are of such families, all are right
  all_of : (before es : List Event) → list_all (λ e. is_staying family_stays e.change) es ≡ true → AreRightOf family_stays Right before es →
      AreRight Right before es
  all_of before [] stay all = tt
  all_of before (e ∷ es) stay all = (all.0 (grind (arith, stay)), all_of (before ++ e ∷ []) es (grind (arith, stay)) all.1)

  module _ (asks : AsksLittle Right) (goes : Event → List Event → Bool) (history : List Event) (keeps : Keeps goes history family_stays) where
    abbrev left : List Event → List Event → List Event
    left es rest = left_of goes es rest

    -- what was right of a family that stays is
    right_left : (moment : ℕ) (change : Change) (before after : List Event) → CodesOpen before → is_staying family_stays change ≡ true →
        Right before change → Right (left before (event_at moment change ∷ after)) change
    right_left moment (CodeGiven f code digest) before after opens stays right =
        let o = eq-eqb code.owner code.owner refl in
        let c = eq-eqb code.client code.client refl in
        let rest : List Event = event_at moment (CodeGiven f code digest) ∷ after in
        let last = last_consent_left goes history family_stays keeps code.owner code.client before rest (grind (arith, o, c, stays)) in
        asks.code before (left before rest) f code digest (ap (λ o. unwrap_or o 0) last) right
    right_left moment (Issued f parties token) before after opens stays right =
        let rest : List Event = event_at moment (Issued f parties token) ∷ after in
        let terms = code_terms_left goes history family_stays keeps f stays before rest in
        asks.token before (left before rest) f parties token
        (record {
          terms = terms;
          no_code = λ none. not_opened (left before rest) f (terms ∙ opens f none);
          unended = λ alive. not_ended_left goes f before rest alive;
        }) right
    right_left moment change before after opens stays right = asks.other (left before (event_at moment change ∷ after)) moment change refl

    right_step : (b : Bool) (e : Event) (before later after : List Event) → goes e (later ++ after) ≡ b → CodesOpen before →
        (is_staying family_stays e.change ≡ true → Right before e.change) →
        AreRightOf family_stays Right (left (before ++ e ∷ []) (later ++ after)) (left later after) →
        AreRightOf family_stays Right (left before (e ∷ later ++ after)) (cond b (left later after) (e ∷ left later after))
    right_step true e before later after is opens right more =
        subst (λ (es : List Event). AreRightOf family_stays Right es (left later after))
        (left-append goes before (e ∷ []) (later ++ after)
        ∙ ap (λ b. left before (e ∷ later ++ after) ++ cond b [] (e ∷ [])) is ∙ append-nil (left before (e ∷ later ++ after))) more
    right_step false e before later after is opens right more = (
      λ stays. right_left e.moment e.change before (later ++ after) opens stays (right stays),
      subst (λ (es : List Event). AreRightOf family_stays Right es (left later after))
          (left-append goes before (e ∷ []) (later ++ after) ∙ ap (λ b. left before (e ∷ later ++ after) ++ cond b [] (e ∷ [])) is) more,
    )

    all_left : (before later after : List Event) → CodesOpen (before ++ later) → AreRightOf family_stays Right before later →
        AreRightOf family_stays Right (left before (later ++ after)) (left later after)
    all_left before [] after opens right = tt
    all_left before (e ∷ later) after opens right =
        right_step (goes e (later ++ after)) e before later after refl (codes_open-before before (e ∷ later) opens) right.0
        (all_left (before ++ e ∷ []) later after (subst CodesOpen (sym (append_assoc before (e ∷ []) later)) opens) right.1)

-- SHORTENED

module _ (history : List Event) (m : ℕ) where
  abbrev goes_at : Event → List Event → Bool
  goes_at e later = is_needless history m e.moment e.change later

  -- all that is left is of families that live
  all_staying : (es rest : List Event) → list_all (λ g. not (is_unexpired m g) || lives history m g.family) (grants es) ≡ true →
      list_all (λ e. is_staying (lives history m) e.change) (left_of goes_at es rest) ≡ true
  all_staying [] rest live = refl
  all_staying (e ∷ es) rest live = let more = all_staying es rest in grind (arith, more, live)

  pub shortened_right : (Right : List Event → Change → Type 0) → AsksLittle Right → CodesOpen history → AreRight Right [] history →
      AreRight Right [] (shortened m history)
  shortened_right Right asks opens right =
      all_of Right (lives history m) [] (shortened m history) (all_staying history [] (unexpired_lives m (grants history)))
      (all_left Right (lives history m) asks goes_at history (keeps_needed goes_at history m (λ e later go. go)) [] history [] opens
      (of_all Right (lives history m) [] history right))
