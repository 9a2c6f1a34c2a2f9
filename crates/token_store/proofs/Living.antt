-- What the store tells of a family, one of whose records is unexpired.
use Rattle.std.proofs.Common.{◌≡◌, ℕ, List, Option, Some, None, true, false, refl, ap, ◌∙◌, sym, subst, arith}
use Rattle.token_store.proofs.Names.{find, is_some, bytes_eq, lookup, keys_of, IsDistinct, any-found, any-found_by, find-one, find-passes, bytes_eq-Decides, same_Some, nat_tests}
use Rattle.token_store.proofs.Names.{Event, Grant, Terms, code_scope, terms_by, grants, grant_at, is_named, is_live_in, found-named, found_kin, Record, Shared, Kept, kept_at, kept_lives, kept_in, all_kept}
use Rattle.token_store.proofs.Names.{shared_at, shared_seen}
use Rattle.token_store.proofs.Names.{FitsHistory, to_keep}
use Rattle.std.specs.Prelude.{option_map}
use Rattle.token_store.specs.Found.{family_at, family_of_grant}
use Rattle.token_store.proofs.Looking.{shown, found}
use Rattle.token_store.proofs.Issuing.{IsShared, shared_found}

-- the record that something is kept as
pub record KeptAs (families : List (ℕ × Shared)) (es : List (List ℕ × Record)) (digest : List ℕ) (k : Kept) : Type 0 where
  pub r : Record
  pub at : lookup (bytes_eq digest) es ≡ Some r
  pub is : kept_in families (digest, r) ≡ k

pub kept_as : (families : List (ℕ × Shared)) (es : List (List ℕ × Record)) (digest : List ℕ) (m : ℕ) (k : Kept) → IsDistinct bytes_eq (keys_of es) →
    kept_at (all_kept families es) digest m ≡ Some k → KeptAs families es digest k
kept_as families es digest m k once at = by (lookup (bytes_eq digest) es) refl (sym (found families es digest m once) ∙ at)
  where
    by : (o : Option Record) → lookup (bytes_eq digest) es ≡ o → shown families digest m o ≡ Some k → KeptAs families es digest k
    by None is h = cc
    by (Some r) is h = record { r = r; at = is; is = grind (arith, h) }

-- a code or token of a family is named by its digest, and what is kept of it shows what the family shares
pub record IsNamed (families : List (ℕ × Shared)) (history : List Event) (moment family : ℕ) : Type 0 where
  pub grant : Grant
  pub named : grant_at history grant.digest moment ≡ Some grant
  pub family_is : grant.family ≡ family
  pub shared : IsShared history family (record { owner = grant.owner; client = grant.client }) (shared_at families family)

-- what the family shares of what the history names
pub shared_of : (families : List (ℕ × Shared)) (es : List (List ℕ × Record)) (history : List Event) (m : ℕ) (digest : List ℕ) (g : Grant) → IsDistinct bytes_eq (keys_of es) →
    FitsHistory (all_kept families es) history m → grant_at history digest m ≡ Some g →
    IsShared history g.family (record { owner = g.owner; client = g.client }) (shared_at families g.family)
shared_of families es history m digest g once fits at =
    let kept = fits.answers digest m (omega arith) ∙ ap (option_map (to_keep history digest m)) at in
    let held = kept_as families es digest m (to_keep history digest m g) once kept in
    let both = shared_found (all_kept families es) history m g (shared_at families held.r.family) digest held.r fits (kept ∙ ap (λ x. Some x) (sym held.is)) at in
    subst (λ (n : ℕ). IsShared history g.family (record { owner = g.owner; client = g.client }) (shared_at families n)) both.0 both.1

-- so there is one, where the history names it
named_in : (families : List (ℕ × Shared)) (es : List (List ℕ × Record)) (history : List Event) (m family : ℕ) (digest : List ℕ) (g : Grant) → IsDistinct bytes_eq (keys_of es) →
    FitsHistory (all_kept families es) history m → grant_at history digest m ≡ Some g → digest ≡ g.digest → g.family ≡ family → IsNamed families history m family
named_in families es history m family digest g once fits at own of = record {
  grant = g;
  named = ap (λ d. grant_at history d m) (sym own) ∙ at;
  family_is = of;
  shared = subst (λ (n : ℕ). IsShared history n (record { owner = g.owner; client = g.client }) (shared_at families n)) of (shared_of families es history m digest g once fits at);
}

-- where something unexpired is kept of the family, there is such a one
pub named_of : (families : List (ℕ × Shared)) (es : List (List ℕ × Record)) (history : List Event) (m family : ℕ) → IsDistinct bytes_eq (keys_of es) →
    FitsHistory (all_kept families es) history m → kept_lives (all_kept families es) m family ≡ true → IsNamed families history m family
named_of families es history m family once fits lives =
    by (find (λ k. is_live_in family m k.grant) (all_kept families es)) refl (any-found (λ k. is_live_in family m k.grant) (all_kept families es) lives)
  where
    of_grant : (k : Kept) → (o : Option Grant) → grant_at history k.grant.digest m ≡ o → Some k ≡ option_map (to_keep history k.grant.digest m) o → is_live_in family m k.grant ≡ true → IsNamed families history m family
    of_grant k None at is passes = cc
    of_grant k (Some g) at is passes =
        let same = same_Some k (to_keep history k.grant.digest m g) is in
        let its : k.grant.family ≡ g.family = ap (λ (x : Kept). x.grant.family) same in
        named_in families es history m family k.grant.digest g once fits at (ap (λ (x : Kept). x.grant.digest) same) (grind (arith, nat_tests, passes, its))

    by : (o : Option Kept) → find (λ k. is_live_in family m k.grant) (all_kept families es) ≡ o → is_some o ≡ true → IsNamed families history m family
    by None at is = cc
    by (Some k) at is =
        let passes = find-passes (λ k. is_live_in family m k.grant) (all_kept families es) k at in
        let self = (bytes_eq-Decides k.grant.digest k.grant.digest).1 refl in
        let kept = find-one (λ x. is_named k.grant.digest m x.grant) (λ x. is_live_in family m x.grant) (all_kept families es) k (fits.once k.grant.digest) at (grind (arith, passes, self)) in
        of_grant k (grant_at history k.grant.digest m) refl (sym kept ∙ fits.answers k.grant.digest m (omega arith)) passes

-- and where nothing is, the history has nothing unexpired of it
pub none_lives : (kept : List Kept) (history : List Event) (m family : ℕ) → FitsHistory kept history m → kept_lives kept m family ≡ false → find (is_live_in family m) (grants history) ≡ None
none_lives kept history m family fits none = by (find (is_live_in family m) (grants history)) refl
  where
    by : (o : Option Grant) → find (is_live_in family m) (grants history) ≡ o → o ≡ None
    by None at = refl
    by (Some g) at =
        let self = λ (x : Grant). (bytes_eq-Decides x.digest x.digest).1 refl in
        let passes = find-passes (is_live_in family m) (grants history) g at in
        let named = found-named (is_live_in family m) history m g fits.is_history (λ x is. (let own = self x in grind (arith, is, own))) at in
        let any = any-found_by (λ x. is_named g.digest m x.grant) (λ x. is_live_in family m x.grant) kept (to_keep history g.digest m g)
        (fits.answers g.digest m (omega arith) ∙ ap (option_map (to_keep history g.digest m)) named) passes in
        grind (arith, any, none)

-- what the family shares is what is seen of it
pub family_is : (families : List (ℕ × Shared)) (es : List (List ℕ × Record)) (history : List Event) (m family : ℕ) → IsDistinct bytes_eq (keys_of es) →
    FitsHistory (all_kept families es) history m → kept_lives (all_kept families es) m family ≡ true → Some (shared_seen (shared_at families family)) ≡ family_at history m family
family_is families es history m family once fits lives =
    let is = named_of families es history m family once fits lives in
    by is (find (is_live_in family m) (grants history)) refl
    (any-found (is_live_in family m) (grants history) (any-found_by (is_named is.grant.digest m) (is_live_in family m) (grants history) is.grant is.named
    (let passes = find-passes (is_named is.grant.digest m) (grants history) is.grant is.named in let own = is.family_is in grind (arith, nat_tests, passes, own))))
  where
    scope_of : (s : Shared) → Some (shared_seen s) ≡ Some (record { client = s.client; owner = s.owner; code_scope = option_map (λ (t : Terms). t.scope) (option_map (terms_by s.client s.owner) (code_scope s)); ended = s.ended })
    scope_of s = grind arith

    by : (is : IsNamed families history m family) → (o : Option Grant) → find (is_live_in family m) (grants history) ≡ o → is_some o ≡ true →
        Some (shared_seen (shared_at families family)) ≡ option_map (family_of_grant history) o
    by is None at some = cc
    by is (Some g) at some =
        let passes = find-passes (is_live_in family m) (grants history) g at in
        let kin = found_kin (is_named is.grant.digest m) (is_live_in family m) (grants history) is.grant g fits.is_history.kin is.named at in
        let own = is.family_is in
        let client = is.shared.client in
        let owner = is.shared.owner in
        let terms = is.shared.terms in
        let ended = is.shared.ended in
        let same : g.family ≡ family = grind (arith, nat_tests, passes) in
        let theirs : (g.client ≡ is.grant.client) × (g.owner ≡ is.grant.owner) = grind (arith, nat_tests, kin, own, same) in
        rw (same, theirs.0, theirs.1, ← client, ← owner, terms, ended) (scope_of (shared_at families family))
