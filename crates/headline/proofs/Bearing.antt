-- What happens, and the end of each family, is borne by credentials and keys.
use Rattle.std.proofs.Common.{◌≡◌, ◌≢◌, ◌≤◌, ◌<◌, ℕ, suc, List, [], ◌∷◌, Bool, true, false, Option, Some, None, cond, refl, sym, ap, ◌∙◌, arith, subst, ◌⊎◌, inl, inr, ◌++◌, append-nil, map}
use Rattle.headline.proofs.Names.{Contains, find, ◌||◌, not, false≢true, and_parts, not-true, nat_tests, All-nil, All-cons, All-contains, All-weaker, All-head, RegistryRecord, authenticated, Change}
use Rattle.headline.proofs.Names.{Grant, grant_at, grants, is_named, IsHistory, event_at, Terms, code_terms, ends, has_ended, is_beyond, with_change, with_changes, CodeGiven, Issued}
use Rattle.headline.proofs.Names.{Spent, FamilyEnded, Consented, Asked, under_digest, Extent, Outcome, form_of, owner_of_key, Setting, is_operator, access_issued, refresh_issued}
use Rattle.headline.proofs.Names.{list_all, has_ended-push, has_ended-push_other, with_changes-cons, BearsCredentials, BearsOwnerKey, BearsOperatorKey, Occasion, outcome_of, setting_on, history_after, EndOwner, GiveConsent}
use Rattle.std.specs.List.{range_with_len}
use Rattle.std.specs.Prelude.{All, count_by, length}
use Rattle.std.proofs.lemmas.List.Elements.{All-tail}
use Rattle.std.specs.Option.{option_map_or}
use Rattle.std.proofs.lemmas.List.Sums.{AllPass-from_list_all}
use Rattle.clients.specs.Registry.{is_operator_key}
use Rattle.headline.proofs.Gateway.{bears_owner_key}
use Rattle.consent.specs.History.{Event, are_kin, greatest_family, next_family}
use Rattle.consent.specs.HistoryLaws.{is_other, none_of}
use Rattle.consent.specs.Growth.{is_consent, may_end}
use Rattle.consent.specs.GrowthLaws.{code_terms-push_none, grants-push_none}
use Rattle.consent.specs.History.{is_code_of}
use Rattle.consent.specs.LeavingLaws.{withdrawn}
use Rattle.headline.specs.Authority.{IsAuthorized, IsAllAuthorized, IsConsentOf, IsEndOf, IsOfOwner, EndsByOwnerAlone, LeavesAlone, IsIsolated, EndsWithAuthority}
use Rattle.headline.proofs.Spending.{ended_stays, live_is}
use Rattle.endpoints.proofs.Walking.{same_some, through}
use Rattle.endpoints.proofs.Ways.{Sender, Way, ByToken, Coded, Consents, Revokes, Installs, Removes, Leaves, Again, InVain, Once, Twice, Refreshed, Own, both_issued, number_in, one_issued, outcome_by}
use Rattle.endpoints.proofs.Ways.{IsAt, Wanting}
use Rattle.headline.proofs.Ways.{IsSentTo, at_each, at_each_sent, goes_to}

-- what is found is in the list
pub find_contains : {X : Type 0} (p : X → Bool) (xs : List X) (x : X) → find p xs ≡ Some x → Contains xs x
find_contains p [] x e = absurd (cc)
find_contains {X = X} p (y ∷ ys) x e = by_test (p y) e (find_contains p ys x)
  where
    by_test : (b : Bool) → cond b (Some y) (find p ys) ≡ Some x → (find p ys ≡ Some x → Contains ys x) → Contains (y ∷ ys) x
    by_test true h rest = (0, omega arith, let same : y ≡ x = cc in same)
    by_test false h rest = let in_rest = rest h in let below = in_rest.1 in (suc in_rest.0, omega (arith, below), in_rest.2)

-- each code and token of the family is the client's
abbrev IsFamilyOf : List Event → ℕ → ℕ → Type 0
IsFamilyOf history family client = (g : Grant) → Contains (grants history) g → g.family ≡ family → g.client ≡ client

module _ (history : List Event) (m : ℕ) (is : IsHistory history m) where
  family_of : (g : Grant) → Contains (grants history) g → IsFamilyOf history g.family g.client
  family_of g at x in_history same =
      let gs = grants history in
      let each = All-contains (λ (y : Grant). list_all (are_kin y) gs ≡ true) gs g (AllPass-from_list_all (λ (y : Grant). list_all (are_kin y) gs) gs is.kin) at in
      let kin = All-contains (λ (y : Grant). are_kin g y ≡ true) gs x (AllPass-from_list_all (are_kin g) gs each) in_history in
      grind (arith, nat_tests, kin, same)

  -- no code or token is of the family that is opened next
  none_new : (family : ℕ) → next_family history ≡ Some family → (g : Grant) → Contains (grants history) g → family ≢ g.family
  none_new family next g at same =
      let less : greatest_family history < family = grind (arith, nat_tests, next) in
      let other = All-contains (λ (y : Grant). is_other family y ≡ true) (grants history) g (AllPass-from_list_all (is_other family) (grants history) (none_of history family less)) at in
      grind (arith, nat_tests, other, same)

  module _ (rules : RegistryRecord) (occasion : Occasion) where
    abbrev s : Setting
    s = setting_on rules history occasion

    abbrev asked : Asked
    asked = occasion.arrival.asked

    abbrev Right : Change → Type 0
    Right change = IsAuthorized rules history occasion change

    abbrev P : Outcome → Type 0
    P o = All Right o.changes

    one : (change : Change) → Right change → All Right (change ∷ [])
    one change right = All-cons Right change [] right (All-nil Right)

    credentials : (sender : Sender rules asked) → BearsCredentials rules asked sender.known.number
    credentials sender = (sender.params, record { form = sender.form; authentic = sender.authenticates })

    there : (digest : List ℕ) (g : Grant) → grant_at history digest occasion.arrival.moment ≡ Some g → Contains (grants history) g
    there digest g at = find_contains (is_named digest occasion.arrival.moment) (grants history) g at

    owner_key : (owner : ℕ) → owner_of_key rules asked ≡ Some owner → BearsOwnerKey rules asked owner
    owner_key owner e = bears_owner_key rules asked owner e

    operator_key : is_operator rules asked ≡ true → BearsOperatorKey rules asked
    operator_key e = by_key asked.operator_key refl e
      where
        by_key : (o : Option (List ℕ)) → asked.operator_key ≡ o → option_map_or (λ key. is_operator_key key rules) o false ≡ true → BearsOperatorKey rules asked
        by_key None is h = absurd (false≢true h)
        by_key (Some key) is h = (key, is, h)

    withdrawn_right : (owner : ℕ) → IsEndOf rules occasion owner → (clients : List ℕ) → All Right (withdrawn owner clients)
    withdrawn_right owner end [] = All-nil Right
    withdrawn_right owner end (client ∷ clients) =
        All-cons Right (Consented owner client 0) (withdrawn owner clients) (inr (end, refl)) (withdrawn_right owner end clients)

    -- of what a sender uses: tokens in its family, its use, and its family's end
    module _ (sender : Sender rules asked) (digest : List ℕ) (g : Grant) (at : grant_at history digest occasion.arrival.moment ≡ Some g) (own : g.client ≡ sender.known.number) where
      borne : BearsCredentials rules asked g.client
      borne = subst (λ n. BearsCredentials rules asked n) (sym own) (credentials sender)

      issued : BearsCredentials rules asked g.client × IsFamilyOf history g.family g.client
      issued = (borne, family_of g (there digest g at))

      spent : Right (Spent g.digest)
      spent = (g, ap (λ d. grant_at history d occasion.arrival.moment) (sym (under_digest history digest occasion.arrival.moment g at)) ∙ at, borne)

      ended : Right (FamilyEnded g.family)
      ended = (g, there digest g at, refl, borne)

      once : (left : Extent) → P (one_issued s g left)
      once left = All-cons Right (access_issued g s.draws.first left) (Spent g.digest ∷ []) issued (one (Spent g.digest) spent)

      twice : (left : Extent) (kept : ℕ) → P (both_issued s g left kept)
      twice left kept =
          let more : Change = refresh_issued g s.draws.second (record { scope = kept; life = s.rules.refresh_life }) in
          All-cons Right (access_issued g s.draws.first left) (more ∷ Spent g.digest ∷ []) issued
          (All-cons Right more (Spent g.digest ∷ []) issued (one (Spent g.digest) spent))

    by_way : (way : Way s asked) → IsAt (IsSentTo occasion) way → P (outcome_by way)
    by_way (ByToken (Again type name test x _)) _ = one _ (ended x.sender x.digest x.grant x.named x.own)
    by_way (ByToken (InVain x error)) _ = one _ (spent x.code.sender x.code.digest x.code.grant x.code.named x.code.own)
    by_way (ByToken (Once x left is untaken)) _ = once x.code.sender x.code.digest x.code.grant x.code.named x.code.own left
    by_way (ByToken (Twice x left is untaken)) _ = twice x.code.sender x.code.digest x.code.grant x.code.named x.code.own left left.scope
    by_way (ByToken (Refreshed x left is untaken)) _ = twice x.token.sender x.token.digest x.token.grant x.token.named x.token.own left x.token.grant.scope
    by_way (ByToken (Own sender typed scope left family new is untaken)) _ = one _ (credentials sender, λ g at same. absurd (none_new family new g at (sym same)))
    by_way (Coded x code family new key of) _ = one _ (owner_key code.owner key, new)
    by_way (Consents owner client mask key) sent = one _ (inl (goes_to occasion GiveConsent sent, owner_key owner key))
    by_way (Revokes x own) _ = one _ (ended x.sender x.digest x.token (live_is history x.digest occasion.arrival.moment x.token x.live).0 own)
    by_way (Installs name version code operator) _ = one _ (operator_key operator)
    by_way (Removes name operator) _ = one _ (operator_key operator)
    by_way (Leaves owner params form named operator) sent =
        withdrawn_right owner (goes_to occasion EndOwner sent, operator_key operator, (params, form, named)) (range_with_len 1 (length rules.clients))
    by_way _ _ = All-nil Right

    pub authorized : IsAllAuthorized rules history occasion
    authorized = at_each_sent P rules history occasion by_way

    -- ISOLATION

    -- a request bears the credentials of one client
    one_bearer : (c d : ℕ) → BearsCredentials rules asked c → BearsCredentials rules asked d → d ≡ c
    one_bearer c d a b =
        let same = same_some a.0 b.0 (form_of asked) a.1.form b.1.form in
        ap number_in (sym b.1.authentic ∙ ap (λ p. authenticated rules.clients asked.authorization p) (sym same) ∙ a.1.authentic)

    leaves : (client : ℕ) (g : Grant) → BearsCredentials rules asked client → Contains (grants history) g → g.client ≢ client →
        (change : Change) → Right change → LeavesAlone history occasion.arrival.moment g change
    leaves client g bears at other (CodeGiven family code digest) right = none_new family right.1 g at
    leaves client g bears at other (Issued family parties token) right =
        λ same. other (right.1 g at (sym same) ∙ one_bearer client parties.client bears right.0)
    leaves client g bears at other (Spent digest) right =
        λ is. other (ap (λ (x : Grant). x.client) (same_some g right.0 (grant_at history digest occasion.arrival.moment) is right.1) ∙ one_bearer client right.0.client bears right.2)
    leaves client g bears at other (FamilyEnded family) right =
        λ same. other (family_of right.0 right.1 g at (sym same ∙ sym right.2) ∙ one_bearer client right.0.client bears right.3)
    leaves client g bears at other _ right = tt

-- the change ends no family
abbrev is_quiet : Change → Bool
is_quiet change = not (may_end change)

-- there is one change, or they are consents, or they end no family
abbrev are_short : List Change → Bool
are_short (change ∷ []) = true
are_short changes = list_all is_quiet changes || list_all is_consent changes

withdrawn_consents : (owner : ℕ) (clients : List ℕ) → list_all is_consent (withdrawn owner clients) ≡ true
withdrawn_consents owner [] = refl
withdrawn_consents owner (client ∷ clients) = withdrawn_consents owner clients

withdrawn_short : (owner : ℕ) (clients : List ℕ) → are_short (withdrawn owner clients) ≡ true
withdrawn_short owner [] = refl
withdrawn_short owner (client ∷ []) = refl
withdrawn_short owner (client ∷ more ∷ clients) = withdrawn_consents owner clients

short_each : (rules : RegistryRecord) (history : List Event) (occasion : Occasion) → are_short (outcome_of rules history occasion).changes ≡ true
short_each rules history occasion = at_each (λ o. are_short o.changes ≡ true) rules history occasion by_way
  where
    by_way : (way : Way (setting_on rules history occasion) occasion.arrival.asked) → are_short (outcome_by way).changes ≡ true
    by_way (ByToken Wanting) = refl
    by_way (Leaves owner params form named operator) = withdrawn_short owner (range_with_len 1 (length rules.clients))
    by_way _ = refl

module _ (history : List Event) (m : ℕ) (is : IsHistory history m) (rules : RegistryRecord) (occasion : Occasion) (family : ℕ)
    (lives : has_ended history family ≡ false) where
  abbrev Ends : Type 0
  Ends = IsAuthorized rules history occasion (FamilyEnded family) ⊎ IsOfOwner rules history occasion family

  -- quiet changes end none
  all_quiet : (before : List Event) (changes : List Change) → list_all is_quiet changes ≡ true → has_ended before family ≡ false →
      has_ended (with_changes before occasion.arrival.moment changes) family ≡ false
  all_quiet before [] quiet alive = ap (λ h. has_ended h family) (append-nil before) ∙ alive
  all_quiet before (change ∷ changes) quiet alive =
      let parts = and_parts (is_quiet change) (list_all is_quiet changes) quiet in
      ap (λ h. has_ended h family) (with_changes-cons before occasion.arrival.moment change changes)
      ∙ all_quiet (with_change before occasion.arrival.moment change) changes parts.1
      (has_ended-push_other before (event_at occasion.arrival.moment change) family (not-true (may_end change) parts.0) ∙ alive)

  -- what one change ends, where consents alone came before
  module _ (before : List Event) (one : count_by (is_code_of family) (grants before) ≤ 1) (alive : has_ended before family ≡ false)
      (same : code_terms before family ≡ code_terms history family) where
    pushed : (change : Change) → has_ended (before ++ event_at occasion.arrival.moment change ∷ []) family ≡ true →
        (ends family change || is_beyond change (code_terms before family)) ≡ true
    pushed change e =
        let more = has_ended-push before (event_at occasion.arrival.moment change) family one in grind (arith, more, alive, e)

    of_owner : (terms : Terms) (mask : ℕ) → code_terms before family ≡ Some terms →
        IsConsentOf rules occasion terms.owner ⊎ (IsEndOf rules occasion terms.owner × (mask ≡ 0)) → Ends
    of_owner terms mask is (inl consent) = inr (inl (terms, sym same ∙ is, consent))
    of_owner terms mask is (inr end) = inr (inr (terms, sym same ∙ is, end.0))

    by_consent : (owner client mask : ℕ) → IsAuthorized rules history occasion (Consented owner client mask) →
        has_ended (before ++ event_at occasion.arrival.moment (Consented owner client mask) ∷ []) family ≡ true → Ends
    by_consent owner client mask right e = by_terms (code_terms before family) refl (pushed (Consented owner client mask) e)
      where
        by_terms : (o : Option Terms) → code_terms before family ≡ o → (ends family (Consented owner client mask) || is_beyond (Consented owner client mask) o) ≡ true → Ends
        by_terms None is h = absurd (false≢true h)
        by_terms (Some terms) is h =
            let his : owner ≡ terms.owner = grind (arith, nat_tests, h) in
            of_owner terms mask is (subst (λ n. IsConsentOf rules occasion n ⊎ (IsEndOf rules occasion n × (mask ≡ 0))) his right)

  by_one : (change : Change) → IsAuthorized rules history occasion change → has_ended (history ++ event_at occasion.arrival.moment change ∷ []) family ≡ true → Ends
  by_one (FamilyEnded f) right e =
      let is = pushed history (is.one_code family) lives refl (FamilyEnded f) e in
      let same : f ≡ family = grind (arith, nat_tests, is) in
      inl (subst (λ x. IsAuthorized rules history occasion (FamilyEnded x)) same right)
  by_one (Consented owner client mask) right e = by_consent history (is.one_code family) lives refl owner client mask right e
  by_one change right e =
      absurd (false≢true (sym (has_ended-push_other history (event_at occasion.arrival.moment change) family refl ∙ lives) ∙ e))

  -- and what consents end, one after the other
  by_consents : (before : List Event) (changes : List Change) → count_by (is_code_of family) (grants before) ≤ 1 → has_ended before family ≡ false →
      code_terms before family ≡ code_terms history family → list_all is_consent changes ≡ true → All (IsAuthorized rules history occasion) changes →
      has_ended (with_changes before occasion.arrival.moment changes) family ≡ true → Ends
  by_consents before [] one alive same are right e = absurd (false≢true (sym (ap (λ h. has_ended h family) (append-nil before) ∙ alive) ∙ e))
  by_consents before (Consented owner client mask ∷ changes) one alive same are right e =
      let m = occasion.arrival.moment in
      let change : Change = Consented owner client mask in
      by_test (has_ended (with_change before m change) family) refl (λ not_yet.
      by_consents (with_change before m change) changes
      (subst (λ gs. count_by (is_code_of family) gs ≤ 1) (sym (grants-push_none before (event_at m change) refl)) one) not_yet
      (code_terms-push_none before (event_at m change) family refl ∙ same) are
      (All-tail (IsAuthorized rules history occasion) change changes right)
      (ap (λ h. has_ended h family) (sym (with_changes-cons before m change changes)) ∙ e))
    where
      by_test : (b : Bool) → has_ended (with_change before occasion.arrival.moment (Consented owner client mask)) family ≡ b →
          (has_ended (with_change before occasion.arrival.moment (Consented owner client mask)) family ≡ false → Ends) → Ends
      by_test true ended later =
          by_consent before one alive same owner client mask (All-head (IsAuthorized rules history occasion) (Consented owner client mask) changes right) ended
      by_test false not_yet later = later not_yet
  by_consents before (change ∷ changes) one alive same are right e = absurd (false≢true are)

  by_all : (changes : List Change) → are_short changes ≡ true → All (IsAuthorized rules history occasion) changes →
      has_ended (with_changes history occasion.arrival.moment changes) family ≡ true → Ends
  by_all [] short right e = absurd (false≢true (sym (all_quiet history [] refl lives) ∙ e))
  by_all (change ∷ []) short right e = by_one change (All-head (IsAuthorized rules history occasion) change [] right) e
  by_all (change ∷ more ∷ rest) short right e = by_test (list_all is_quiet (change ∷ more ∷ rest)) refl short
    where
      by_test : (b : Bool) → list_all is_quiet (change ∷ more ∷ rest) ≡ b → (b || list_all is_consent (change ∷ more ∷ rest)) ≡ true → Ends
      by_test true quiet _ = absurd (false≢true (sym (all_quiet history (change ∷ more ∷ rest) quiet lives) ∙ e))
      by_test false _ consents = by_consents history (change ∷ more ∷ rest) (is.one_code family) lives refl consents right e

pub ends_with_authority : (history : List Event) (m : ℕ) → IsHistory history m → (rules : RegistryRecord) (occasion : Occasion) → EndsWithAuthority rules history occasion
ends_with_authority history m is rules occasion family lives e =
    by_all history m is rules occasion family lives (outcome_of rules history occasion).changes (short_each rules history occasion) (authorized history m is rules occasion) e

module _ (history : List Event) (m : ℕ) (is : IsHistory history m) (rules : RegistryRecord) (occasion : Occasion) where
  -- a family of another client ends by a consent of its owner alone
  ends_by_owner : (client : ℕ) (g : Grant) → BearsCredentials rules occasion.arrival.asked client → Contains (grants history) g → g.client ≢ client →
      EndsByOwnerAlone rules history occasion g.family
  ends_by_owner client g bears at other = by_tests (has_ended history g.family) (has_ended (history_after rules history occasion) g.family) refl refl
    where
      by_tests : (before after : Bool) → has_ended history g.family ≡ before → has_ended (history_after rules history occasion) g.family ≡ after →
          EndsByOwnerAlone rules history occasion g.family
      by_tests true true was has = inl (has ∙ sym was)
      by_tests false false was has = inl (has ∙ sym was)
      by_tests true false was has =
          absurd (false≢true (sym (ended_stays history (map (event_at occasion.arrival.moment) (outcome_of rules history occasion).changes) g.family has) ∙ was))
      by_tests false true was has = elim (ends_with_authority history m is rules occasion g.family was has) [
        | inl right ↦ absurd (leaves history m is rules occasion client g bears at other (FamilyEnded g.family) right refl)
        | inr consent ↦ inr consent
      ]

  pub isolated : IsIsolated rules history occasion
  isolated client g bears at other = (
    All-weaker (IsAuthorized rules history occasion) (LeavesAlone history occasion.arrival.moment g) (leaves history m is rules occasion client g bears at other)
        (outcome_of rules history occasion).changes (authorized history m is rules occasion),
    ends_by_owner client g bears at other,
  )
