-- A store that is made of a list fits it with one change more.
use Rattle.std.proofs.Common.{◌≡◌, ◌<◌, ℕ, max, List, [], ◌∷◌, ◌++◌, Option, Some, None, true, Result, Ok, Err, OnOk, refl, ap, ◌∙◌, sym, subst, arith}
use Rattle.token_store.proofs.Names.{is_some, IsDistinct, bytes_eq, lookup, keys_of, family_numbered, Event, Grant, grant_of, event_at, grant_at, is_new, terms_of, code_terms, with_change, stand_entries}
use Rattle.token_store.proofs.Names.{change_of, parties_of}
use Rattle.token_store.proofs.Names.{Made, Issued, CodeGiven, code_terms-new, code_terms-push, code_terms-push_other, has_ended-push_other, has_ended-new, home_shared, code_shared, token_kept}
use Rattle.token_store.proofs.Names.{code_kept, Record, Shared}
use Rattle.token_store.proofs.Names.{kept_at, kept_of, kept_under, all_kept, expiry, expiry_of, IsTied, AllLive, TellsSame, SeenSame, BecomesKnown, HasAltered, shared_or, held_of, Tables, nat_tests}
use Rattle.consent.specs.History.{ends}
use Rattle.consent.specs.HistoryLaws.{opener-new}
use Rattle.consent.specs.declared.change.Change.TheVariants as made
use Rattle.consent.specs.declared.change.CodeFacts.{CodeFacts}
use Rattle.consent.specs.declared.change.Home.{Home}
use Rattle.consent.specs.declared.change.NewToken.{NewToken}
use Rattle.token_store.specs.declared.fault.AgainFault.{AgainFault}
use Rattle.token_store.specs.declared.fault.AgainFault.TheVariants.{Unknown, DrawTaken, Memory}
use Rattle.token_store.specs.FitsParts.{Alters}
use Rattle.token_store.specs.Kept.{Held}
use Rattle.token_store.specs.RecordsParts.{IsCodeRecord}
use Rattle.token_store.specs.Room.{records_by}
use Rattle.token_store.specs.Lists.{family_told, can_be_of, standing_refusal, FitsList, ForEachList, RefusesAgain}
use Rattle.token_store.specs.ListsLaws.{stands, unrefused}
use Rattle.token_store.proofs.Looking.{shown, found}
use Rattle.token_store.proofs.Adding.{unkept, fits_opened}
use Rattle.token_store.proofs.Changing.{fits_put, last_pushed}
use Rattle.token_store.proofs.Issuing.{IsShared, fits_token}
use Rattle.token_store.proofs.Standing.{knows_given, ended_given, knows_altered, ended_altered, open_shared}
use Rattle.token_store.proofs.Telling.{fits_same}

-- WHAT HAS EXPIRED

-- what a list tells is told where only expired records are gone
pub fits_dropped : (t t' : Tables) (list : List Event) (m : ℕ) → IsTied t' → TellsSame (kept_of t) (kept_of t') m → t'.last ≡ t.last → t'.coming ≡ t.coming →
    SeenSame t.families.entries t'.families.entries → FitsList (held_of t) list m → FitsList (held_of t') list m
fits_dropped t t' list m tied same last coming stay fits = record {
  store = record { kept = fits_same (kept_of t) t' list m tied same fits.store.kept; last = last ∙ fits.store.last };
  families = λ n. stay n ∙ fits.families n;
  ended = fits.ended;
  none_coming = coming ∙ fits.none_coming;
}

-- where nothing has expired there is nothing under a digest that nothing is kept under
free_at : (families : List (ℕ × Shared)) (es : List (List ℕ × Record)) (digest : List ℕ) (m : ℕ) → IsDistinct bytes_eq (keys_of es) → AllLive es m →
    kept_at (all_kept families es) digest m ≡ None → lookup (bytes_eq digest) es ≡ None
free_at families es digest m once live none = by (lookup (bytes_eq digest) es) refl
  where
    by : (o : Option Record) → lookup (bytes_eq digest) es ≡ o → o ≡ None
    by None at = refl
    by (Some r) at =
        let late : m < expiry r = live digest (expiry r) (ap expiry_of at) in
        let is : shown families digest m (Some r) ≡ None = ap (shown families digest m) (sym at) ∙ sym (found families es digest m once) ∙ none in
        absurd (grind (arith, nat_tests, late, is))

-- CODES AND TOKENS

-- a record is kept again, in a family that is opened if it was not there
pub record HasKept (t t' : Tables) (digest : List ℕ) (r : Record) (s : Shared) : Type 0 where
  pub tied : IsTied t'
  pub coming : t'.coming ≡ t.coming
  pub last : t'.last ≡ max t.last r.family
  pub known : lookup (bytes_eq digest) (stand_entries t.records) ≡ None → BecomesKnown t.families.entries t'.families.entries r.family s
  pub keeps : (m : ℕ) → lookup (bytes_eq digest) (stand_entries t.records) ≡ None →
      TellsSame (kept_of t ++ kept_under (shared_or t.families.entries r.family s) digest r ∷ []) (kept_of t') m

pub on_ok_kept : {X E D : Type 0} (result : Result X E) (t t' : Tables) (digest : List ℕ) (r : Record) (s : Shared) → IsTied t' → t'.coming ≡ t.coming → OnOk result (t'.last ≡ max t.last r.family) →
    OnOk result (lookup (bytes_eq digest) (stand_entries t.records) ≡ None → BecomesKnown t.families.entries t'.families.entries r.family s) →
    OnOk result ((m : ℕ) → lookup (bytes_eq digest) (stand_entries t.records) ≡ None → TellsSame (kept_of t ++ kept_under (shared_or t.families.entries r.family s) digest r ∷ []) (kept_of t') m) →
    (HasKept t t' digest r s → D) → OnOk result D
on_ok_kept (Ok x) t t' digest r s tied coming last known keeps f = f (record { tied = tied; coming = coming; last = last; known = known; keeps = keeps })
on_ok_kept (Err e) t t' digest r s tied coming last known keeps f = tt

module _ (t t' : Tables) (list : List Event) (m : ℕ) (tied : IsTied t) (live : AllLive (stand_entries t.records) m) (fits : FitsList (held_of t) list m) where
  free : (digest : List ℕ) → grant_at list digest m ≡ None → lookup (bytes_eq digest) (stand_entries t.records) ≡ None
  free digest none = free_at t.families.entries (stand_entries t.records) digest m tied.ties.once live (unkept (kept_of t) list m digest fits.store.kept none)

  pub again_token : (home : Home) (token : NewToken) (r : Record) → r.family ≡ home.family → ((s : Shared) → kept_under s token.digest r ≡ token_kept home.family s m token) →
      HasKept t t' token.digest r (home_shared home 0) → standing_refusal list m (Issued home token) ≡ None →
      FitsList (held_of t') (with_change list m (change_of (Issued home token))) m
  again_token home token r of kept has none =
      let x = change_of (Issued home token) in
      let e = event_at m x in
      let s = shared_or t.families.entries home.family (home_shared home 0) in
      let is = fits.store.kept.is_history in
      let can = stands list m (Issued home token) is none in
      let can_be = (unrefused list m (can_be_of list home.family (parties_of home)) token.digest none).0 in
      let shared = open_shared t.families.entries list home fits.families fits.ended is.kin can_be in
      let none_there = free token.digest can.1 in
      let shared_on : IsShared (with_change list m x) home.family (parties_of home) s = record {
        client = shared.client;
        owner = shared.owner;
        terms = code_terms-push_other list e _ home.family refl refl ∙ shared.terms;
        ended = has_ended-push_other list e home.family refl ∙ shared.ended;
      } in
      record {
        store = record {
          kept = fits_put (kept_of t) (token_kept home.family s m token) (kept_under s token.digest r) t' list (with_change list m x) m token.digest (kept s)
              (λ gone. subst (λ f. TellsSame (kept_of t ++ kept_under (shared_or t.families.entries f (home_shared home 0)) token.digest r ∷ []) (kept_of t') m) of (has.keeps m none_there))
              fits.store.kept can.1 has.tied (fits_token (kept_of t) list m home.family (parties_of home) s token shared can fits.store.kept);
          last = has.last ∙ ap (max t.last) of ∙ last_pushed t.last list e fits.store.last;
        };
        families = knows_given t.families.entries t'.families.entries list e _ (home_shared home 0) refl refl fits.families refl refl shared_on (rw of at (has.known none_there));
        ended = ended_given list e refl fits.ended;
        none_coming = has.coming ∙ fits.none_coming;
      }

  -- a new family is not there
  absent : (family : ℕ) → is_new list family ≡ true → family_numbered t.families.entries family ≡ None
  absent family new = let is = fits.families family in let none = opener-new list family new in grind (arith, is, none)

  pub again_code : (family : ℕ) (facts : CodeFacts) (digest : List ℕ) (r : Record) → r.family ≡ family → IsCodeRecord family facts m r → HasKept t t' digest r (code_shared facts 0) →
      standing_refusal list m (CodeGiven family facts digest) ≡ None → FitsList (held_of t') (with_change list m (change_of (CodeGiven family facts digest))) m
  again_code family facts digest r of kept has none =
      let x = change_of (CodeGiven family facts digest) in
      let e = event_at m x in
      let g : Grant = (code_kept family digest facts m).grant in
      let can = stands list m (CodeGiven family facts digest) fits.store.kept.is_history none in
      let none_there = free digest can.1 in
      let gone = absent family can.0 in
      let is : kept_under (shared_or t.families.entries family (code_shared facts 0)) digest r ≡ code_kept family digest facts m = rw gone (kept digest 0) in
      let pushed = code_terms-push list e g family refl in
      let fresh = code_terms-new list family can.0 in
      let terms : code_terms (with_change list m x) family ≡ Some (terms_of g) = grind (arith, nat_tests, pushed, fresh) in
      let shared : IsShared (with_change list m x) family (record { owner = facts.owner; client = facts.client }) (shared_or t.families.entries family (code_shared facts 0)) =
      rw gone (record { client = refl; owner = refl; terms = terms; ended = has_ended-push_other list e family refl ∙ has_ended-new list family can.0 }) in
      record {
        store = record {
          kept = fits_put (kept_of t) (code_kept family digest facts m) (kept_under (shared_or t.families.entries family (code_shared facts 0)) digest r) t' list (with_change list m x) m digest is
              (λ gone. subst (λ f. TellsSame (kept_of t ++ kept_under (shared_or t.families.entries f (code_shared facts 0)) digest r ∷ []) (kept_of t') m) of (has.keeps m none_there))
              fits.store.kept can.1 has.tied (fits_opened (kept_of t) list m family facts digest can fits.store.kept);
          last = has.last ∙ ap (max t.last) of ∙ last_pushed t.last list e fits.store.last;
        };
        families = knows_given t.families.entries t'.families.entries list e g (code_shared facts 0) refl refl fits.families refl refl shared (rw of at (has.known none_there));
        ended = ended_given list e refl fits.ended;
        none_coming = has.coming ∙ fits.none_coming;
      }

-- ANY OTHER CHANGE

no_grant : (m : ℕ) (change : Made) → records_by change ≡ 0 → grant_of (event_at m (change_of change)) ≡ None
no_grant m (made.CodeGiven family facts digest) none = cc
no_grant m (made.Issued home token) none = cc
no_grant m change none = refl

-- a family that a change ends is known
ends_known : (list : List Event) (m : ℕ) (change : Made) → standing_refusal list m change ≡ None → (n : ℕ) → ends n (change_of change) ≡ true → is_some (family_told list n) ≡ true
ends_known list m (made.FamilyEnded family) none n is = grind (arith, nat_tests, none, is)
ends_known list m change none n is = cc

pub again_altered : (t t' : Tables) (list : List Event) (m : ℕ) (change : Made) → records_by change ≡ 0 → Alters (held_of t) (held_of t') m change →
    HasAltered t.families.entries t'.families.entries (change_of change) → t'.coming ≡ t.coming → FitsList (held_of t) list m → standing_refusal list m change ≡ None →
    FitsList (held_of t') (with_change list m (change_of change)) m
again_altered t t' list m change none alters altered coming fits stands =
    let e = event_at m (change_of change) in
    let is = fits.store.kept.is_history in
    record {
      store = alters list fits.store;
      families = knows_altered t.families.entries t'.families.entries list e m (no_grant m change none) is fits.families altered;
      ended = ended_altered list e m is fits.ended (ends_known list m change stands);
      none_coming = coming ∙ fits.none_coming;
    }

-- WHAT IS REFUSED

pub refuses_again : (store : Held) (m : ℕ) (change : Made) (fault : AgainFault) → ForEachList store m (λ list. standing_refusal list m change ≡ Some fault) → RefusesAgain store m change fault
refuses_again store m change Memory why = tt
refuses_again store m change Unknown why = why
refuses_again store m change DrawTaken why = why
