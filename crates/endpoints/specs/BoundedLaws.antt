-- A history of right changes is bounded.
use Rattle.std.proofs.Common.{◌≡◌, ◌≤◌, inl, inr, ℕ, List, [], ◌∷◌, ◌++◌, false, refl, append_assoc, append-nil, sym, ◌∙◌, arith, subst}
use Rattle.endpoints.specs.Names.{cons_option, RegistryRecord, Event, Grant, grant_by, grants, opener, is_code_of, consented_scope, IsHistory, is_covered-start, is_covered-push, is_within-trans}
use Rattle.endpoints.specs.Names.{NewToken}
use Rattle.std.specs.Prelude.{◌==◌, count_by, find}
use Rattle.std.proofs.lemmas.Bool.{eq-eqb}
use Rattle.consent.specs.History.{Change}
use Rattle.consent.specs.History.Change.{CodeGiven, Issued}
use Rattle.consent.specs.Covered.{IsCovered, IsConsented}
use Rattle.consent.specs.GrowthLaws.{count_by-append, code_terms-keep, opener-append}
use Rattle.consent.specs.declared.parties.Parties.{Parties}
use Rattle.endpoints.specs.Bounded.{IsRightChange, AllRight, IsAllowed, IsConsentedBefore, IsConsentedAt, IsBounded, IsOwn, is_of_code}

-- what opened the family is no code, also where more has happened
no_code-append : (history more : List Event) (family : ℕ) → is_of_code (opener history family) ≡ false → is_of_code (opener more family) ≡ false →
    is_of_code (opener (history ++ more) family) ≡ false
no_code-append history more family old new = let both = opener-append history more family in grind (arith, both, old, new)

-- a token that opens its family is no code
token_opens : (moment : ℕ) (change : Change) (gs : List Grant) (family : ℕ) (parties : Parties) (token : NewToken) →
    change ≡ Issued family parties token →
    is_of_code (find (λ g. g.family == family) (cons_option (grant_by moment change) gs)) ≡ false
token_opens moment change gs family parties token is = rw (is, eq-eqb family family refl) refl

-- a client's own token stays one, whatever happens after it
pub own-later : (before between : List Event) (e : Event) (family : ℕ) (parties : Parties) (token : NewToken) →
    e.change ≡ Issued family parties token → IsOwn before family parties.owner → IsOwn (before ++ e ∷ between) family parties.owner
own-later before between e family parties token is own = record {
  no_owner = own.no_owner;
  no_code =
      no_code-append before (e ∷ between) family own.no_code
      (token_opens e.moment e.change (grants between) family parties token is);
}

module _ (rules : RegistryRecord) where
  -- a right code is one that its owner consents to
  right_consented : (before : List Event) (change : Change) → IsRightChange rules before change → IsConsented before change
  right_consented before (CodeGiven family code digest) right = right.1
  right_consented before _ right = tt

  abbrev OneCode : List Event → Type 0
  OneCode history = (family : ℕ) → count_by (is_code_of family) (grants history) ≤ 1

  -- so it is of the first events
  one_code-before : (before later : List Event) → OneCode (before ++ later) → OneCode before
  one_code-before before later one family =
      let parts = count_by-append (is_code_of family) before later in let whole = one family in omega (arith, parts, whole)

  -- an event in the history was right when it happened
  pub all_right-at : (start before later : List Event) (e : Event) → AllRight rules start (before ++ e ∷ later) → IsRightChange rules (start ++ before) e.change
  all_right-at start [] later e all = subst (λ h. IsRightChange rules h e.change) (sym (append-nil start)) all.0
  all_right-at start (x ∷ before) later e all =
      subst (λ h. IsRightChange rules h e.change) (append_assoc start (x ∷ []) before) (all_right-at (start ++ x ∷ []) before later e all.1)

  -- and so were those before it
  all_right-before : (start before later : List Event) → AllRight rules start (before ++ later) → AllRight rules start before
  all_right-before start [] later all = tt
  all_right-before start (x ∷ before) later all = (all.0, all_right-before (start ++ x ∷ []) before later all.1)

  -- each code's scope is consented to, while its family has not ended
  covered_after : (before later : List Event) → OneCode (before ++ later) → IsCovered before → AllRight rules before later → IsCovered (before ++ later)
  covered_after before [] one covered all = subst IsCovered (sym (append-nil before)) covered
  covered_after before (e ∷ later) one covered all =
      let same = append_assoc before (e ∷ []) later in
      subst IsCovered same
      (covered_after (before ++ e ∷ []) later (subst OneCode (sym same) one)
      (is_covered-push before e.moment e.change (one_code-before before (e ∷ later) one) (right_consented before e.change all.0) covered) all.1)

  covered_all : (history : List Event) → OneCode history → AllRight rules [] history → IsCovered history
  covered_all history one all = covered_after [] history one is_covered-start all

  allowed_at : (before : List Event) (change : Change) → IsRightChange rules before change → IsAllowed rules change
  allowed_at before (Issued family parties token) right = (right.0, right.1)
  allowed_at before (CodeGiven family code digest) right = right.0
  allowed_at before _ right = tt

  consented_at : (before : List Event) (change : Change) → IsCovered before → IsRightChange rules before change → IsConsentedBefore before change
  consented_at before (Issued family parties token) covered right =
      elim right.2 [
        | inl own ↦ inl own
        | inr of ↦ inr (is_within-trans token.scope of.0 (consented_scope before parties.owner parties.client) of.2 (covered family (record { client = parties.client; owner = parties.owner; scope = of.0 }) of.1 of.3))
      ]
  consented_at before _ covered right = tt

  consented_later : (before between : List Event) (e : Event) → IsCovered (before ++ e ∷ between) → (change : Change) → e.change ≡ change →
      IsRightChange rules before change → IsConsentedAt (before ++ e ∷ between) change
  consented_later before between e covered (Issued family parties token) is right =
      elim right.2 [
        | inl own ↦ inl (own-later before between e family parties token is own)
        | inr of ↦
            inr (λ alive. is_within-trans token.scope of.0 (consented_scope (before ++ e ∷ between) parties.owner parties.client) of.2
            (covered family (record { client = parties.client; owner = parties.owner; scope = of.0 }) (code_terms-keep before (e ∷ between) family _ of.1) alive))
      ]
  consented_later before between e covered _ is right = tt

  -- each token of a history of right changes keeps to allowance, consent and life
  pub tokens_keep_their_bounds : (history : List Event) (m : ℕ) → IsHistory history m → AllRight rules [] history → IsBounded rules history
  tokens_keep_their_bounds history m is all = record {
    allowed = λ before later e whole.
        allowed_at before e.change (all_right-at [] before later e (subst (λ h. AllRight rules [] h) whole all));
    consented_before = λ before later e whole.
        let parts = subst (λ h. AllRight rules [] h) whole all in
        consented_at before e.change
        (covered_all before (one_code-before before (e ∷ later) (subst OneCode whole is.one_code)) (all_right-before [] before (e ∷ later) parts))
        (all_right-at [] before later e parts);
    consented_after = λ before between later e whole.
        let parts = subst (λ h. AllRight rules [] h) whole all in
        consented_later before between e
        (covered_all (before ++ e ∷ between) (one_code-before (before ++ e ∷ between) later (subst OneCode whole is.one_code)) (all_right-before [] (before ++ e ∷ between) later parts))
        e.change refl (all_right-at [] before (between ++ later) e (subst (λ h. AllRight rules [] h) (whole ∙ append_assoc before (e ∷ between) later) all));
  }
