-- What is made again, as the next change of a list.
use Rattle.std.proofs.Common.{◌≡◌, ◌≤◌, ◌⊎◌, ◌∙◌, ap, sym, refl, inl, inr, not, ℕ, List, [], ◌∷◌, ◌++◌, Bool, true, false, Option, Some, None, arith, subst}
use Rattle.endpoints.proofs.Names.{find, nat_le, option_map, nat_tests, and_parts, eqb-true, leb-true, not-true, eq-eqb, le-leb, and_from, false≢true, RegistryRecord, change_of, parties_of, is_some}
use Rattle.endpoints.proofs.Names.{FitsConsents, is_taken-parts, Event, event_at, Grant, Terms, IsHistory, code_terms, consented_scope, grant_at, grants, has_ended, is_code_of}
use Rattle.endpoints.proofs.Names.{is_taken, is_within, terms_of, with_change, NewToken, Spent, Hosting, HostRun}
use Rattle.endpoints.proofs.Names.{FitsStore, Held, IsOfCode, IsOwn, IsRightChange, MayHave, is_of_code, token_life_limit, RedoesChange, SeenRemaking, FitsRemaking}
use Rattle.endpoints.proofs.Names.{RefusesRedo, list_refusal, or_not_right, comes_of, comes_of_family, is_right, may_have, may_have_token, Outset}
use Rattle.std.specs.Prelude.{◌==◌, ◌&&◌, Result, Ok, Err, IfErr, IsErrAnd, max}
use Rattle.std.specs.List.{list_all}
use Rattle.std.proofs.lemmas.List.Folds.{list_all-append}
use Rattle.consent.specs.History.{opener, is_new, is_kin, are_kin, all_kin, ends, CanStand}
use Rattle.consent.specs.History.{Change as told}
use Rattle.consent.specs.History.Change.{FamilyEnded as end_told}
use Rattle.consent.specs.GrowthLaws.{grants-append}
use Rattle.consent.specs.HistoryLaws.{found_kin, has_ended-new, is_other}
use Rattle.consent.specs.ListLaws.{find-all, find-passes}
use Rattle.consent.specs.Owners.{owner_number}
use Rattle.consent.specs.declared.change.Change.{Change}
use Rattle.consent.specs.declared.change.Change.TheVariants.{Consented, CodeGiven, Issued, FamilyEnded, HookSet, HookGone, Numbered}
use Rattle.consent.specs.declared.parties.Parties.{Parties}
use Rattle.shortening.specs.Lists.{CodesOpen, is_opened_by_code}
use Rattle.shortening.specs.ListsLaws.{all_stand-join, codes_open-stand, codes_open-start, in_order-join}
use Rattle.shortening.specs.Shortened.{all_closed, closes}
use Rattle.shortening.specs.StoreLaws.{store_fits_happened}
use Rattle.consent.specs.Consents.{unless_empty}
use Rattle.endpoints.specs.Redo.{IsNowhereRight}
use Rattle.endpoints.specs.Remaking.{Finishes}
use Rattle.token_store.specs.Found.{family_of_grant}
use Rattle.token_store.specs.Lists.{FitsList, family_told, can_be_of, is_open_to, refused_by, standing_refusal, RefusesAgain}
use Rattle.token_store.specs.ListsLaws.{list_later}
use Rattle.token_store.specs.declared.fault.AgainFault.{AgainFault}
use Rattle.token_store.specs.declared.fault.AgainFault.TheVariants as again
use Rattle.endpoints.specs.declared.redo.RedoFault.TheVariants.{NotRight}
use Rattle.endpoints.specs.Faults.{of_again_fault}
use Rattle.endpoints.proofs.Stepping.{host_join, all_right-more}

-- a digest that is not taken is free
free : (list : List Event) (m : ℕ) (digest : List ℕ) → is_taken list m (digest ∷ []) ≡ false → grant_at list digest m ≡ None
free list m digest untaken = (is_taken-parts list m digest [] untaken).0

-- what nothing refuses can be of its family, and has a digest of its own
unless_parts : (can_be taken : Bool) → refused_by can_be taken ≡ None → (can_be ≡ true) × (taken ≡ false)
unless_parts true false none = (refl, refl)
unless_parts true true none = cc
unless_parts false taken none = cc

-- THE FAMILY

-- what a list tells of a family, by what opened it
told_by : (list : List Event) (family : ℕ) (o : Option Grant) → opener list family ≡ o → family_told list family ≡ option_map (family_of_grant list) o
told_by list family o at = ap (option_map (family_of_grant list)) at

named : (list : List Event) (family : ℕ) (g : Grant) → opener list family ≡ Some g → g.family ≡ family
named list family g at = eqb-true g.family family (find-passes (λ x. x.family == family) (grants list) g at)

-- it is of the client and the owner, and has not ended
pub record IsOpen (list : List Event) (family : ℕ) (parties : Parties) (g : Grant) : Type 0 where
  pub client : g.client ≡ parties.client
  pub owner : g.owner ≡ parties.owner
  pub unended : has_ended list family ≡ false

open_to : (list : List Event) (family : ℕ) (parties : Parties) (g : Grant) → opener list family ≡ Some g → can_be_of list family parties ≡ true →
    IsOpen list family parties g
open_to list family parties g at can_be =
    let is : is_open_to parties (Some (family_of_grant list g)) ≡ true = ap (is_open_to parties) (sym (told_by list family (Some g) at)) ∙ can_be in
    let first = and_parts ((g.client == parties.client) && (g.owner == parties.owner)) (not (has_ended list g.family)) is in
    let both = and_parts (g.client == parties.client) (g.owner == parties.owner) first.0 in
    record {
      client = eqb-true g.client parties.client both.0;
      owner = eqb-true g.owner parties.owner both.1;
      unended = ap (has_ended list) (sym (named list family g at)) ∙ not-true (has_ended list g.family) first.1;
    }

-- all of a family is of whom the first of it is
all_of : (g : Grant) (family client owner : ℕ) (gs : List Grant) → g.family ≡ family → g.client ≡ client → g.owner ≡ owner → list_all (are_kin g) gs ≡ true →
    list_all (is_kin family client owner) gs ≡ true
all_of g family client owner gs f c o all =
    subst (λ n. list_all (is_kin family client n) gs ≡ true) o
    (subst (λ n. list_all (is_kin family n g.owner) gs ≡ true) c (subst (λ n. list_all (is_kin n g.client g.owner) gs ≡ true) f all))

none_kin : (family client owner : ℕ) (gs : List Grant) → find (λ g. g.family == family) gs ≡ None → list_all (is_kin family client owner) gs ≡ true
none_kin family client owner [] none = refl
none_kin family client owner (g ∷ gs) none = let more = none_kin family client owner gs in grind (arith, more, none)

kin_told : (list : List Event) (family : ℕ) (parties : Parties) → all_kin (grants list) ≡ true → can_be_of list family parties ≡ true →
    list_all (is_kin family parties.client parties.owner) (grants list) ≡ true
kin_told list family parties kin can_be = by (opener list family) refl
  where
    by : (o : Option Grant) → opener list family ≡ o → list_all (is_kin family parties.client parties.owner) (grants list) ≡ true
    by None at = none_kin family parties.client parties.owner (grants list) at
    by (Some g) at =
        let is = open_to list family parties g at can_be in
        all_of g family parties.client parties.owner (grants list) (named list family g at) is.client is.owner
        (find-all (λ x. x.family == family) (λ x. list_all (are_kin x) (grants list)) (grants list) g kin at)

-- where it is known, or has ended, it has not ended
unended_told : (list : List Event) (family : ℕ) (parties : Parties) → can_be_of list family parties ≡ true →
    (has_ended list family ≡ true → is_some (family_told list family) ≡ true) → has_ended list family ≡ false
unended_told list family parties can_be ended = by (opener list family) refl
  where
    by : (o : Option Grant) → opener list family ≡ o → has_ended list family ≡ false
    by (Some g) at = (open_to list family parties g at can_be).unended
    by None at =
        let none = told_by list family None at in
        not_ended (has_ended list family) (λ is. (let some = ended is in cc (none, some)))
      where
        not_ended : (b : Bool) → (b ≡ true → ⊥) → b ≡ false
        not_ended true never = absurd (never refl)
        not_ended false never = refl

-- RIGHTNESS

may : (rules : RegistryRecord) (client scope : ℕ) → may_have rules client scope ≡ true → MayHave rules client scope
may rules client scope is = record { is_client = grind (arith, is); within = grind (arith, is) }

may_token : (rules : RegistryRecord) (client : ℕ) (token : NewToken) → may_have_token rules client token ≡ true →
    MayHave rules client token.scope × (token.life ≤ token_life_limit rules token.kind)
may_token rules client token is =
    let parts = and_parts (may_have rules client token.scope) (nat_le token.life (token_life_limit rules token.kind)) is in
    (may rules client token.scope parts.0, leb-true token.life (token_life_limit rules token.kind) parts.1)

-- a family without a code was opened by none
uncoded : (family : ℕ) (gs : List Grant) → option_map terms_of (find (is_code_of family) gs) ≡ None → is_of_code (find (λ g. g.family == family) gs) ≡ false
uncoded family [] none = refl
uncoded family (g ∷ gs) none = let more = uncoded family gs in grind (arith, nat_tests, none, more)

-- the terms are those of the first of the family
terms_kin : (list : List Event) (family : ℕ) (g : Grant) (t : Terms) → all_kin (grants list) ≡ true → opener list family ≡ Some g → code_terms list family ≡ Some t →
    t ≡ record { client = g.client; owner = g.owner; scope = t.scope }
terms_kin list family g t kin at terms = by (find (is_code_of family) (grants list)) refl
  where
    by : (o : Option Grant) → find (is_code_of family) (grants list) ≡ o → t ≡ record { client = g.client; owner = g.owner; scope = t.scope }
    by None code = cc (code, terms)
    by (Some h) code =
        let passes = find-passes (is_code_of family) (grants list) h code in
        let own = named list family g at in
        let are = found_kin (λ x. x.family == family) (is_code_of family) (grants list) g h kin at code in
        let same : Some (terms_of h) ≡ Some t = ap (option_map terms_of) (sym code) ∙ terms in
        grind (arith, nat_tests, passes, own, are, same)

-- what may come of a family is its own client's, or comes of its code
comes : (list : List Event) (family : ℕ) (parties : Parties) (scope : ℕ) → all_kin (grants list) ≡ true → can_be_of list family parties ≡ true →
    comes_of_family (family_told list family) parties.owner scope ≡ true →
    IsOwn list family parties.owner ⊎ IsOfCode list family parties.client parties.owner scope
comes list family parties scope kin can_be may_come = by (opener list family) refl
  where
    by_terms : (g : Grant) → opener list family ≡ Some g → (o : Option Terms) → code_terms list family ≡ o →
        comes_of (has_ended list family) parties.owner (option_map (λ (t : Terms). t.scope) o) scope ≡ true →
        IsOwn list family parties.owner ⊎ IsOfCode list family parties.client parties.owner scope
    by_terms g at None terms own =
        inl (record { no_owner = eqb-true parties.owner 0 own; no_code = uncoded family (grants list) terms })
    by_terms g at (Some t) terms of =
        let parts = and_parts (is_within scope t.scope) (not (has_ended list family)) of in
        let is = open_to list family parties g at can_be in
        let whose = terms_kin list family g t kin at terms in
        inr (
          t.scope,
          terms ∙ ap (λ (x : Terms). Some x) whose
              ∙ ap (λ n. Some (record { client = n; owner = g.owner; scope = t.scope })) is.client
              ∙ ap (λ n. Some (record { client = parties.client; owner = n; scope = t.scope })) is.owner,
          parts.0,
          is.unended,
        )

    by : (o : Option Grant) → opener list family ≡ o → IsOwn list family parties.owner ⊎ IsOfCode list family parties.client parties.owner scope
    by None at =
        inl (record {
          no_owner = eqb-true parties.owner 0 (ap (λ o. comes_of_family o parties.owner scope) (sym (told_by list family None at)) ∙ may_come);
          no_code = ap is_of_code at;
        })
    by (Some g) at =
        let here = ap (λ o. comes_of_family o parties.owner scope) (sym (told_by list family (Some g) at)) ∙ may_come in
        by_terms g at (code_terms list family) refl
        (subst (λ n. comes_of (has_ended list n) parties.owner (option_map (λ (t : Terms). t.scope) (code_terms list n)) scope ≡ true) (named list family g at) here)

-- and what is right is found so

may_back : (rules : RegistryRecord) (client scope : ℕ) → MayHave rules client scope → may_have rules client scope ≡ true
may_back rules client scope may = let is = may.is_client in let within = may.within in grind (arith, is, within)

-- what is unknown has no code
no_code : (family : ℕ) (gs : List Grant) → find (λ g. g.family == family) gs ≡ None → find (is_code_of family) gs ≡ None
no_code family [] none = refl
no_code family (g ∷ gs) none = let more = no_code family gs in grind (arith, more, none)

-- what is known of a family, by what opened it and by its code
comes_known : (list : List Event) (family owner scope : ℕ) (g : Grant) (o : Option Terms) → opener list family ≡ Some g → code_terms list family ≡ o →
    comes_of (has_ended list family) owner (option_map (λ (t : Terms). t.scope) o) scope ≡ true →
    comes_of_family (family_told list family) owner scope ≡ true
comes_known list family owner scope g o at terms is =
    ap (λ o. comes_of_family o owner scope) (told_by list family (Some g) at)
    ∙ ap (λ n. comes_of (has_ended list n) owner (option_map (λ (t : Terms). t.scope) (code_terms list n)) scope) (named list family g at)
    ∙ ap (λ o. comes_of (has_ended list family) owner (option_map (λ (t : Terms). t.scope) o) scope) terms ∙ is

comes_back : (list : List Event) (family client owner scope : ℕ) → CodesOpen list → IsOwn list family owner ⊎ IsOfCode list family client owner scope →
    comes_of_family (family_told list family) owner scope ≡ true
comes_back list family client owner scope opens comes = by (opener list family) refl comes
  where
    unknown : opener list family ≡ None → code_terms list family ≡ None
    unknown at = ap (option_map terms_of) (no_code family (grants list) at)

    by : (o : Option Grant) → opener list family ≡ o → IsOwn list family owner ⊎ IsOfCode list family client owner scope →
        comes_of_family (family_told list family) owner scope ≡ true
    by None at (inl own) = ap (λ o. comes_of_family o owner scope) (told_by list family None at) ∙ eq-eqb owner 0 own.no_owner
    by None at (inr of) = (let none = unknown at in let some = of.1 in cc (none, some))
    by (Some g) at (inl own) =
        let opened : is_opened_by_code list family ≡ false = (let no = own.no_code in grind (arith, at, no)) in
        comes_known list family owner scope g None at (opens family opened) (eq-eqb owner 0 own.no_owner)
    by (Some g) at (inr of) =
        let within = of.2 in let alive = of.3 in
        comes_known list family owner scope g (Some (record { client = client; owner = owner; scope = of.0 })) at of.1 (grind (arith, within, alive))

right_back : (rules : RegistryRecord) (list : List Event) (change : Change) → CodesOpen list → IsRightChange rules list (change_of change) →
    is_right rules list change ≡ true
right_back rules list (CodeGiven family facts digest) opens right =
    and_from (may_have rules facts.client facts.scope) (is_within facts.scope (consented_scope list facts.owner facts.client))
    (may_back rules facts.client facts.scope right.0) right.1
right_back rules list (Issued home token) opens right =
    and_from (may_have_token rules home.client token) (comes_of_family (family_told list home.family) (owner_number home.owner) token.scope)
    (and_from (may_have rules home.client token.scope) (nat_le token.life (token_life_limit rules token.kind))
    (may_back rules home.client token.scope right.0) (le-leb token.life (token_life_limit rules token.kind) right.1))
    (comes_back list home.family home.client (owner_number home.owner) token.scope opens right.2)
right_back rules list (Consented owner client mask) opens right = refl
right_back rules list (Spent digest) opens right = refl
right_back rules list (FamilyEnded family) opens right = refl
right_back rules list (HookSet name version code) opens right = refl
right_back rules list (HookGone name) opens right = refl
right_back rules list (Numbered last) opens right = refl

-- WHAT COMES NEXT

-- the change may stand next, and is right, and gives nothing of a family that has ended
pub record IsNext (rules : RegistryRecord) (list : List Event) (m : ℕ) (change : Change) : Type 0 where
  pub can : CanStand list m (change_of change)
  pub right : IsRightChange rules list (change_of change)
  pub gives : (family : ℕ) → has_ended list family ≡ true → list_all (is_other family) (grants (event_at m (change_of change) ∷ [])) ≡ true

-- a new family has not ended, and one that has is another
other_family : (list : List Event) (f family : ℕ) → has_ended list f ≡ false → has_ended list family ≡ true → (not (f == family) && true) ≡ true
other_family list f family alive ended = by (f == family) refl
  where
    by : (b : Bool) → (f == family) ≡ b → (not b && true) ≡ true
    by false other = refl
    by true same = cc (ap (has_ended list) (eqb-true f family same), alive, ended)

next_of : (rules : RegistryRecord) (list : List Event) (m : ℕ) (change : Change) → IsHistory list m →
    ((n : ℕ) → has_ended list n ≡ true → is_some (family_told list n) ≡ true) → is_right rules list change ≡ true →
    standing_refusal list m change ≡ None → IsNext rules list m change
next_of rules list m (Consented owner client mask) is known right none = record { can = tt; right = tt; gives = λ family ended. refl }
next_of rules list m (CodeGiven family facts digest) is known right none =
    let parts = and_parts (may_have rules facts.client facts.scope) (is_within facts.scope (consented_scope list facts.owner facts.client)) right in
    let new = unless_parts (is_new list family) (is_taken list m (digest ∷ [])) none in
    record {
      can = (new.0, free list m digest new.1);
      right = (may rules facts.client facts.scope parts.0, parts.1);
      gives = λ n ended. other_family list family n (has_ended-new list family new.0) ended;
    }
next_of rules list m (Issued home token) is known right none =
    let parties = parties_of home in
    let may_be = unless_parts (can_be_of list home.family parties) (is_taken list m (token.digest ∷ [])) none in
    let both = and_parts (may_have_token rules home.client token) (comes_of_family (family_told list home.family) (owner_number home.owner) token.scope) right in
    let held = may_token rules home.client token both.0 in
    record {
      can = (kin_told list home.family parties is.kin may_be.0, free list m token.digest may_be.1);
      right = (held.0, held.1, comes list home.family parties token.scope is.kin may_be.0 both.1);
      gives = λ n ended. other_family list home.family n (unended_told list home.family parties may_be.0 (known home.family)) ended;
    }
next_of rules list m (Spent digest) is known right none = record { can = tt; right = tt; gives = λ family ended. refl }
next_of rules list m (FamilyEnded family) is known right none = record { can = tt; right = tt; gives = λ n ended. refl }
next_of rules list m (HookSet name version code) is known right none = record { can = tt; right = tt; gives = λ family ended. refl }
next_of rules list m (HookGone name) is known right none = record { can = tt; right = tt; gives = λ family ended. refl }
next_of rules list m (Numbered last) is known right none = record { can = tt; right = tt; gives = λ family ended. refl }

-- NOTHING IS GIVEN OF A FAMILY AFTER ITS END

closes_push : (change : told) (later : List Event) (e : Event) → closes change later ≡ true →
    ((family : ℕ) → ends family change ≡ true → list_all (is_other family) (grants (e ∷ [])) ≡ true) → closes change (later ++ e ∷ []) ≡ true
closes_push (end_told f) later e was none =
    let here = none f (eq-eqb f f refl) in
    ap (list_all (is_other f)) (grants-append later (e ∷ [])) ∙ list_all-append (is_other f) (grants later) (grants (e ∷ []))
    ∙ ap (λ b. b && list_all (is_other f) (grants (e ∷ []))) was ∙ here
closes_push _ later e was none = refl

alone_closed : (change : told) → (closes change [] && true) ≡ true
alone_closed (end_told f) = refl
alone_closed _ = refl

closed_on : (list : List Event) (e : Event) → all_closed list ≡ true →
    ((family : ℕ) → has_ended list family ≡ true → list_all (is_other family) (grants (e ∷ [])) ≡ true) → all_closed (list ++ e ∷ []) ≡ true
closed_on [] e was none = alone_closed e.change
closed_on (x ∷ list) e was none =
    let here = closes_push x.change list e (grind (arith, was)) (λ family is. none family (grind (arith, is))) in
    let more = closed_on list e (grind (arith, was)) (λ family is. none family (grind (arith, is))) in grind (arith, here, more)

-- what holds of the one fault that is told holds of it
pub of_fault : {A E : Type 0} (P : E → Type 0) (r : Result A E) (fault : E) → IsErrAnd r (λ e. e ≡ fault) → P fault → IfErr r P
of_fault P (Ok x) fault is holds = tt
of_fault P (Err e) fault is holds = subst P (sym is) holds

-- THE SERVER IN THE MAKING

module _ {H : Type 0} (hosting : Hosting H) where
  -- time went on, what had expired went, and the change was made
  pub redone : (old new : SeenRemaking H) (mid : Held) (moment : ℕ) (change : Change) → old.greatest ≤ moment → new.rules ≡ old.rules → new.greatest ≡ moment →
      ((list : List Event) → FitsList old.store list moment → FitsList mid list moment) →
      ((list : List Event) → FitsList mid list moment → standing_refusal list moment change ≡ None) →
      ((list : List Event) → FitsList mid list moment → FitsList new.store (with_change list moment (change_of change)) moment) →
      ((list : List Event) → FitsList mid list moment → FitsConsents old.consents list → is_right old.rules list change ≡ true) →
      ((list : List Event) (m : ℕ) → FitsConsents old.consents list → FitsConsents new.consents (with_change list m (change_of change))) →
      HostRun hosting old.host (event_at moment (change_of change) ∷ []) new.host → RedoesChange hosting old moment change new
  redone old new mid moment change le rules_same now drops stands makes right puts runs outset list m fits =
      let e = event_at moment (change_of change) in
      let store = drops list (list_later old.store list m moment (omega (arith, le, fits.greatest_is)) fits.store) in
      let is = store.store.kept.is_history in
      let good = subst (λ r. is_right r list change ≡ true) fits.rules_are (right list store fits.consents) in
      let n = next_of outset.rules list moment change is store.ended good (stands list store) in
      let made = makes list store in
      let sound = fits.sound in
      record {
        rules_are = rules_same ∙ fits.rules_are;
        greatest_is = now;
        store = made;
        consents = puts list moment fits.consents;
        hosts = host_join hosting outset.first old.host new.host list (e ∷ []) fits.hosts runs;
        right = all_right-more outset.rules list moment (change_of change ∷ []) fits.right (n.right, tt);
        sound = record {
          stands = all_stand-join [] list (e ∷ []) sound.stands (n.can, tt);
          in_order =
              in_order-join 0 m list (e ∷ []) (omega arith) sound.is_history.past sound.in_order
              (let later : m ≤ moment = omega (arith, le, fits.greatest_is) in grind (arith, nat_tests, later));
          closed = closed_on list e sound.closed n.gives;
          is_history = made.store.kept.is_history;
        };
      }

  -- why the store does not make it is why the list does not go on with it
  pub again_refused : (old : SeenRemaking H) (mid : Held) (moment : ℕ) (change : Change) (fault : AgainFault) → old.greatest ≤ moment →
      ((list : List Event) → FitsList old.store list moment → FitsList mid list moment) → RefusesAgain mid moment change fault →
      RefusesRedo hosting old moment change (of_again_fault fault)
  again_refused old mid moment change fault le drops refuses = by fault refuses
    where
      told_by_list : (f : AgainFault) → ((list : List Event) → FitsList mid list moment → standing_refusal list moment change ≡ Some f) →
          (outset : Outset H) (list : List Event) (m : ℕ) → FitsRemaking hosting old outset list m →
          list_refusal outset.rules list moment change ≡ Some (of_again_fault f)
      told_by_list f is outset list m fits =
          let store = drops list (list_later old.store list m moment (omega (arith, le, fits.greatest_is)) fits.store) in
          ap (λ o. or_not_right (is_right outset.rules list change) (option_map of_again_fault o)) (is list store)

      by : (f : AgainFault) → RefusesAgain mid moment change f → RefusesRedo hosting old moment change (of_again_fault f)
      by again.Unknown is = told_by_list again.Unknown is
      by again.DrawTaken is = told_by_list again.DrawTaken is
      by again.Memory is = tt

  -- it may stand, but is not right
  pub not_right : (old : SeenRemaking H) (mid : Held) (moment : ℕ) (change : Change) → old.greatest ≤ moment →
      ((list : List Event) → FitsList old.store list moment → FitsList mid list moment) →
      ((list : List Event) → FitsList mid list moment → standing_refusal list moment change ≡ None) →
      ((list : List Event) → FitsList mid list moment → FitsConsents old.consents list → is_right old.rules list change ≡ false) →
      RefusesRedo hosting old moment change NotRight
  not_right old mid moment change le drops stands wrong outset list m fits =
      let store = drops list (list_later old.store list m moment (omega (arith, le, fits.greatest_is)) fits.store) in
      let bad = subst (λ r. is_right r list change ≡ false) fits.rules_are (wrong list store fits.consents) in
      ap (λ o. or_not_right (is_right outset.rules list change) (option_map of_again_fault o)) (stands list store)
      ∙ ap (λ b. or_not_right b None) bad

  -- and is right in no list
  pub nowhere_right : (old : SeenRemaking H) (mid : Held) (moment : ℕ) (change : Change) → old.greatest ≤ moment →
      ((list : List Event) → FitsList old.store list moment → FitsList mid list moment) →
      ((list : List Event) → FitsList mid list moment → FitsConsents old.consents list → is_right old.rules list change ≡ false) →
      IsNowhereRight hosting old change
  nowhere_right old mid moment change le drops wrong outset list m fits right =
      let store = drops list (list_later old.store list m moment (omega (arith, le, fits.greatest_is)) fits.store) in
      let bad = subst (λ r. is_right r list change ≡ false) fits.rules_are (wrong list store fits.consents) in
      false≢true (sym bad ∙ right_back outset.rules list change (codes_open-stand [] list codes_open-start fits.sound.stands) right)

  -- the list is at its end
  pub finished : (old : SeenRemaking H) (store : Held) (until moment : ℕ) → moment ≡ max old.greatest until →
      ((list : List Event) → FitsList old.store list moment → FitsStore store list moment) →
      Finishes hosting old until (record { rules = old.rules; host = old.host; store = store; consents = old.consents; greatest = moment; unkept = None; prepared = None })
  finished old store until moment is settles outset list m fits history tells run right =
      let now : moment ≡ max m until = omega (arith, is, fits.greatest_is) in
      let kept = settles list (list_later old.store list m moment (omega (arith, now)) fits.store) in
      let there = subst (λ n. FitsStore store list n) now kept in
      let alike = tells.alike in
      record {
        rules_are = fits.rules_are;
        greatest_is = now;
        store = store_fits_happened history list (max m until) alike store tells.is_history tells.last_is there;
        consents = record {
          masks = λ owner client. fits.consents.masks owner client ∙ ap unless_empty (alike.consented owner client);
          count = fits.consents.count ∙ alike.consents;
          nobody = λ client. sym (alike.consented 0 client) ∙ fits.consents.nobody client;
        };
        hosts = run;
        right = right;
      }
