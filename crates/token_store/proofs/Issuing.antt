-- A store that keeps new tokens fits the history in which they are issued.
use Rattle.std.proofs.Common.{◌≡◌, ℕ, List, [], ◌∷◌, ◌++◌, Option, Some, None, true, refl, ap, ◌∙◌, sym, arith}
use Rattle.token_store.proofs.Names.{◌==◌, eq-eqb, and_from, find-some, same_Some, bytes_eq-Decides, Event, Grant, grants, grant_at, CanStand, told}
use Rattle.token_store.proofs.Names.{is_named, is_code, is_code_of, code_terms, has_ended, is_new, is_host, Host, found-named, with_change, code_terms-push_other, has_ended-push_other}
use Rattle.token_store.proofs.Names.{code_terms-kin, code_terms-new, has_ended-new, is_history-push, Record, Shared, Kept, FitsHistory, to_keep}
use Rattle.token_store.proofs.Names.{parties_of, home_shared, code_scope, fact_in, kind_told, owner_told, kept_at, terms_by, kept_under, token_kept}
use Rattle.std.specs.Prelude.{option_map}
use Rattle.consent.specs.declared.change.Home.{Home}
use Rattle.consent.specs.declared.change.NewToken.{NewToken}
use Rattle.consent.specs.declared.parties.Parties.{Parties}
use Rattle.token_store.specs.declared.record.Given.{Given}
use Rattle.token_store.specs.declared.record.Given.TheVariants.{Code, Token, UsedCode}
use Rattle.token_store.proofs.Adding.{Gives, fits_given}

-- ONE TOKEN

-- what the family shares is its client, its owner, its code and its end
pub record IsShared (history : List Event) (family : ℕ) (parties : Parties) (s : Shared) : Type 0 where
  pub client : s.client ≡ parties.client
  pub owner : s.owner ≡ parties.owner
  pub terms : code_terms history family ≡ option_map (terms_by s.client s.owner) (code_scope s)
  pub ended : has_ended history family ≡ s.ended

pub fits_token : (kept : List Kept) (history : List Event) (moment family : ℕ) (parties : Parties) (s : Shared) (token : NewToken) →
    IsShared history family parties s → CanStand history moment (told.Issued family parties token) → FitsHistory kept history moment →
    FitsHistory (kept ++ token_kept family s moment token ∷ []) (with_change history moment (told.Issued family parties token)) moment
fits_token kept history moment family parties s token is can fits =
    let e : Event = record { moment = moment; change = told.Issued family parties token } in
    let g : Grant = record (token_kept family s moment token).grant { client = parties.client; owner = parties.owner } in
    let terms : code_terms (history ++ e ∷ []) family ≡ option_map (terms_by s.client s.owner) (code_scope s) = code_terms-push_other history e g family refl refl ∙ is.terms in
    let ended : has_ended (history ++ e ∷ []) family ≡ s.ended = has_ended-push_other history e family refl ∙ is.ended in
    let gives : Gives history moment e g = record {
      gives_it = refl;
      ends_none = refl;
      spends_none = λ d. refl;
      same_terms = λ d t h at. code_terms-push_other history e g h.family refl refl;
      untaken = can.1;
      is_history = is_history-push history moment (told.Issued family parties token) fits.is_history can;
    } in
    fits_given kept history moment e g (token_kept family s moment token) gives
    (sym (rw (terms, ended, ← is.client, ← is.owner) refl)) fits

-- IN A FAMILY OF THEIR OWN

pub shared_new : (history : List Event) (home : Home) → is_new history home.family ≡ true → IsShared history home.family (parties_of home) (home_shared home 0)
shared_new history home new = record {
  client = refl;
  owner = refl;
  terms = code_terms-new history home.family new;
  ended = has_ended-new history home.family new;
}

-- IN A FAMILY THAT THERE IS

-- a code is of a family with a code's terms
code_has_terms : (history : List Event) (digest : List ℕ) (moment : ℕ) (h : Grant) → grant_at history digest moment ≡ Some h → is_code h.kind ≡ true → code_terms history h.family ≡ None → ⊥
code_has_terms history digest moment h at code none =
    let some = find-some (is_named digest moment) (is_code_of h.family) (grants history) h at (and_from (is_code h.kind) (h.family == h.family) code (eq-eqb h.family h.family refl)) in
    grind (arith, some, none)

-- what is found shows what its family shares
pub shared_found : (kept : List Kept) (history : List Event) (moment : ℕ) (g : Grant) (s : Shared) (digest : List ℕ) (r : Record) → FitsHistory kept history moment →
    kept_at kept digest moment ≡ Some (kept_under s digest r) → grant_at history digest moment ≡ Some g →
    (r.family ≡ g.family) × IsShared history g.family (record { owner = g.owner; client = g.client }) s
shared_found kept history moment g s digest r fits found at =
    let seen : kept_under s digest r ≡ to_keep history digest moment g =
    same_Some _ _ (sym found ∙ fits.answers digest moment (omega arith) ∙ ap (option_map (to_keep history digest moment)) at) in
    let client : s.client ≡ g.client = ap (λ x. x.grant.client) seen in
    let terms : code_terms history g.family ≡ option_map (terms_by s.client s.owner) (code_scope s) = sym (ap (λ x. x.terms) seen) in
    let owner : s.owner ≡ g.owner = owner_cases r.given (ap (λ x. x.grant.kind) seen) (ap (λ x. x.grant.owner) seen) (code_scope s) terms in
    (ap (λ x. x.grant.family) seen, record { client = client; owner = owner; terms = terms; ended = sym (ap (λ x. x.ended) seen) })
  where
    of_code : is_code g.kind ≡ true → (o : Option ℕ) → code_terms history g.family ≡ option_map (terms_by s.client s.owner) o → s.owner ≡ g.owner
    of_code code None terms = absurd (code_has_terms history digest moment g at code terms)
    of_code code (Some scope) terms = (code_terms-kin history digest moment g (terms_by s.client s.owner scope) fits.is_history.kin at terms).1

    owner_cases : (given : Given) → kind_told (fact_in given) ≡ g.kind → owner_told s.owner (fact_in given) ≡ g.owner → (o : Option ℕ) → code_terms history g.family ≡ option_map (terms_by s.client s.owner) o → s.owner ≡ g.owner
    owner_cases (Token client life spent token) kind owner o terms = owner
    owner_cases (Code client texts) kind owner o terms = of_code (ap is_code (sym kind)) o terms
    owner_cases (UsedCode client whose) kind owner o terms = of_code (ap is_code (sym kind)) o terms

-- a host is named by its own digest
pub host_named : (history : List Event) (moment family : ℕ) (parties : Parties) (kept : List Kept) → FitsHistory kept history moment → (host : Host history moment family parties) →
    grant_at history host.grant.digest moment ≡ Some host.grant
host_named history moment family parties kept fits host =
    found-named (is_host moment family parties) history moment host.grant fits.is_history
    (λ x is. (let same = (bytes_eq-Decides x.digest x.digest).1 refl in grind (arith, is, same))) host.found
