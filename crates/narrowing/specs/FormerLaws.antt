-- Nothing of what is left is a former owner's. For proofs alone.
use Rattle.std.proofs.Common.{◌≡◌, ◌≤◌, ◌⊎◌, inl, inr, ℕ, List, [], ◌∷◌, ◌++◌, Bool, true, false, cond, Option, Some, None, refl, sym, ap, subst, ◌∙◌, append_assoc, arith}
use Rattle.std.specs.Prelude.{◌==◌, ◌&&◌, ◌||◌, not, find, count_by}
use Rattle.std.specs.List.{list_all}
use Rattle.std.specs.Option.{option_map_or, option_or}
use Rattle.std.proofs.lemmas.Bool.{and_parts}
use Rattle.std.proofs.lemmas.Bool.Decides.{nat_tests}
use Rattle.std.proofs.lemmas.List.Elements.{All-contains}
use Rattle.std.proofs.lemmas.List.Folds.{list_all-append}
use Rattle.std.proofs.lemmas.List.Sums.{AllPass-from_list_all}
use Rattle.clients.specs.RegistryRecord.{RegistryRecord}
use Rattle.consent.specs.GrowthLaws.{code_terms-append}
use Rattle.consent.specs.ListLaws.{count_by-cons, find-uncounted}
use Rattle.consent.specs.History.{Event, Change, Grant, Terms, code_terms, event_at, grant_of, grants, is_code_of}
use Rattle.consent.specs.History.Change.{CodeGiven, Issued, FamilyEnded}
use Rattle.consent.specs.Facts.{GivenCode}
use Rattle.consent.specs.declared.change.NewToken.{NewToken}
use Rattle.consent.specs.declared.parties.Parties.{Parties}
use Rattle.endpoints.specs.Bounded.{AllRight, IsOfCode, IsOwn, IsRightChange}
use Rattle.narrowing.specs.Left.{HasNoFormer, Under, do_go_beyond, goes_beyond, is_beyond_rules, left_of, left_under, token_under}
use Rattle.narrowing.specs.LeftLaws.{consented_left, is_no_formers, left_events}
use Rattle.rules_beside.specs.Beside.{is_former}

module _ (under : Under) (family : ℕ) where
  -- where a family is not beyond the rules, and has one code at most, no code of it is a former owner's
  pub no_formers : (es : List Event) → count_by (is_code_of family) (grants es) ≤ 1 → is_beyond_rules under es family ≡ false →
      list_all (is_no_formers under family) es ≡ true
  no_formers [] one stays = refl
  no_formers (e ∷ es) one stays = by (no_formers es) (grant_of e) refl
    where
      by : (count_by (is_code_of family) (grants es) ≤ 1 → is_beyond_rules under es family ≡ false → list_all (is_no_formers under family) es ≡ true) →
          (o : Option Grant) → grant_of e ≡ o → list_all (is_no_formers under family) (e ∷ es) ≡ true
      by more None gives = grind (arith, gives, more, one, stays)
      by more (Some g) gives =
          let c = count_by-cons (is_code_of family) g (grants es) in
          let none = find-uncounted (is_code_of family) (grants es) in grind (arith, gives, c, none, more, one, stays)

  pub no_formers_before : (history before later : List Event) → history ≡ before ++ later → count_by (is_code_of family) (grants history) ≤ 1 →
      is_beyond_rules under history family ≡ false → list_all (is_no_formers under family) before ≡ true
  no_formers_before history before later whole one stays =
      (and_parts _ _ (sym (list_all-append (is_no_formers under family) before later) ∙ sym (ap (list_all (is_no_formers under family)) whole) ∙ no_formers history one stays)).0

  -- nor at one event of it
  pub no_former_at : (history before later : List Event) (e : Event) → history ≡ before ++ e ∷ later → count_by (is_code_of family) (grants history) ≤ 1 →
      is_beyond_rules under history family ≡ false → is_no_formers under family e ≡ true
  no_former_at history before later e whole one stays =
      (and_parts _ _ (and_parts _ _ (sym (list_all-append (is_no_formers under family) before (e ∷ later)) ∙ sym (ap (list_all (is_no_formers under family)) whole)
      ∙ no_formers history one stays)).1).0

-- OF A RIGHT HISTORY

module _ (old : RegistryRecord) (under : Under) (history : List Event) (one_code : (family : ℕ) → count_by (is_code_of family) (grants history) ≤ 1) where
  abbrev beyond : ℕ → Bool
  beyond family = is_beyond_rules under history family

  -- it is nobody's, or of one who is no former owner
  abbrev is_free : Grant → Bool
  is_free g = (g.owner == 0) || not (is_former under.owners g.owner)

  abbrev gives_free : ℕ → Change → Type 0
  gives_free m change = option_map_or is_free (grant_of (event_at m change)) true ≡ true

  free_code : (b : Bool) (before later : List Event) (m f : ℕ) (code : GivenCode) (digest : List ℕ) → history ≡ before ++ event_at m (CodeGiven f code digest) ∷ later →
      beyond f ≡ b → gives_free m (cond b (FamilyEnded f) (CodeGiven f code digest))
  free_code true before later m f code digest whole is = refl
  free_code false before later m f code digest whole is =
      let here = no_former_at under f history before later (event_at m (CodeGiven f code digest)) whole (one_code f) is in grind (arith, nat_tests, here)

  free_token : (b : Bool) (before later : List Event) (m f : ℕ) (parties : Parties) (token : NewToken) → history ≡ before ++ event_at m (Issued f parties token) ∷ later →
      beyond f ≡ b → (IsOwn before f parties.owner ⊎ IsOfCode before f parties.client parties.owner token.scope) →
      gives_free m (cond b (FamilyEnded f) (Issued f parties (token_under under.rules parties.client token)))
  free_token true before later m f parties token whole is home = refl
  free_token false before later m f parties token whole is (inl own) = let none = own.no_owner in grind (arith, nat_tests, none)
  free_token false before later m f parties token whole is (inr of) =
      let rest : List Event = event_at m (Issued f parties token) ∷ later in
      let terms : code_terms history f ≡ Some (record { client = parties.client; owner = parties.owner; scope = of.0 }) =
      ap (λ (es : List Event). code_terms es f) whole ∙ code_terms-append before rest f ∙ ap (λ (o : Option Terms). option_or o (code_terms rest f)) of.1 in
      let free : (is_former under.owners parties.owner || goes_beyond under.rules parties.client of.0) ≡ false = sym (ap (do_go_beyond under) terms) ∙ is in
      grind (arith, free)

  free_change : (before later : List Event) (m : ℕ) (change : Change) → history ≡ before ++ event_at m change ∷ later → IsRightChange old before change →
      gives_free m (left_of under beyond change)
  free_change before later m (CodeGiven f code digest) whole right = free_code (beyond f) before later m f code digest whole refl
  free_change before later m (Issued f parties token) whole right = free_token (beyond f) before later m f parties token whole refl right.2
  free_change before later m _ whole right = refl

  all_free : (before later : List Event) → history ≡ before ++ later → AllRight old before later → list_all is_free (grants (left_events under beyond later)) ≡ true
  all_free before [] whole all = refl
  all_free before (e ∷ later) whole all =
      let here = free_change before later e.moment e.change whole all.0 in
      let more = all_free (before ++ e ∷ []) later (whole ∙ sym (append_assoc before (e ∷ []) later)) all.1 in grind (arith, here, more)

  pub no_former : AllRight old [] history → HasNoFormer under.owners (left_under under history)
  no_former all owner from (inl grant) =
      let given : List Grant = grants (left_under under history) in
      let free : is_free grant.0 ≡ true =
      All-contains (λ (g : Grant). is_free g ≡ true) given grant.0 (AllPass-from_list_all is_free given (all_free [] history refl all)) grant.1 in
      let is : ((owner == 0) || not (is_former under.owners owner)) ≡ true =
      subst (λ (n : ℕ). ((n == 0) || not (is_former under.owners n)) ≡ true) grant.2 free in grind (arith, nat_tests, is, from)
  no_former all owner from (inr consent) = by (is_former under.owners owner) refl
    where
      by : (b : Bool) → is_former under.owners owner ≡ b → b ≡ false
      by false is = refl
      by true is = absurd (consent.1 (let left = consented_left under beyond history owner consent.0 in grind (arith, left, is)))
