-- The tables without a record that has expired.
use Rattle.std.proofs.Common.{◌≡◌, ◌<◌, ◌≤◌, ℕ, ◌+◌, List, [], ◌∷◌, Option, Some, None, Bool, true, false, cond, length, refl, ap, ◌∙◌, sym, arith}
use Rattle.token_store.proofs.Names.{◌==◌, family_numbered, count_by, unwrap_or, is_some, IsDistinct, IsPermutation, bytes_eq, lookup, remove_entry, values_of, keys_of, sum_by-remove_entry}
use Rattle.token_store.proofs.Names.{sum_by_values_permutation, bytes_eq-Decides, Record, Shared, Kept, kept_at, kept_unexpired, shared_at, kept_in, kept_under, all_kept, member_count, IsCounted}
use Rattle.token_store.proofs.Names.{expiry, is_live_at, HasLeft, TellsSame, is_unexpired, nat_tests}
use Rattle.std.specs.Prelude.{option_map, sum_by}
use Rattle.std.proofs.lemmas.List.Sums.{sum_by-cons}
use Rattle.token_store.proofs.Names.{HasTaken}
use Rattle.token_store.proofs.Looking.{shown, found, count-map}

-- a count of the others
pub count_without : (p : Record → Bool) (digest : List ℕ) (es es' : List (List ℕ × Record)) (r : Record) → lookup (bytes_eq digest) es ≡ Some r →
    IsPermutation (remove_entry (bytes_eq digest) es) es' → count_by p (values_of es') + cond {A = ℕ} (p r) 1 0 ≡ count_by p (values_of es)
count_without p digest es es' r at taken =
    ap (λ n. n + cond {A = ℕ} (p r) 1 0) (sum_by_values_permutation (λ x. cond {A = ℕ} (p x) 1 0) (remove_entry (bytes_eq digest) es) es' taken)
    ∙ ap (λ o. count_by p (values_of (remove_entry (bytes_eq digest) es)) + unwrap_or (option_map (λ x. cond {A = ℕ} (p x) 1 0) o) 0) (sym at)
    ∙ sum_by-remove_entry (λ x. cond {A = ℕ} (p x) 1 0) (bytes_eq digest) es

-- one that is found is counted
pub member_counted : (digest : List ℕ) (es : List (List ℕ × Record)) (r : Record) → lookup (bytes_eq digest) es ≡ Some r → 0 < member_count es r.family
member_counted digest es r at =
    let sums = sum_by-remove_entry (λ (x : Record). cond {A = ℕ} (x.family == r.family) 1 0) (bytes_eq digest) es in
    grind (arith, nat_tests, sums, at)

pub has_slot : (families : List (ℕ × Shared)) (n : ℕ) → 0 < (shared_at families n).count → is_some (family_numbered families n) ≡ true
has_slot families n some = grind arith

-- the counts of the families are right again
pub counted_without : (families families' : List (ℕ × Shared)) (es es' : List (List ℕ × Record)) (digest : List ℕ) (r : Record) (keeps : Bool) →
    IsCounted families es → lookup (bytes_eq digest) es ≡ Some r →
    IsPermutation (remove_entry (bytes_eq digest) es) es' → HasLeft families families' r.family keeps → IsCounted families' es'
counted_without families families' es es' digest r keeps counted at taken left n =
    let sums = count_without (λ x. x.family == n) digest es es' r at taken in
    let some = member_counted digest es r at in
    grind (arith, nat_tests, sums, some, counted n, counted r.family, left.others n, left.here)

-- no family has more records
pub fewer_members : (es es' : List (List ℕ × Record)) (digest : List ℕ) (r : Record) → lookup (bytes_eq digest) es ≡ Some r →
    IsPermutation (remove_entry (bytes_eq digest) es) es' → (n : ℕ) → member_count es' n ≤ member_count es n
fewer_members es es' digest r at taken n = let sums = count_without (λ x. x.family == n) digest es es' r at taken in omega (arith, sums)

-- a family that is there still shares what it did
pub same_shared : (families families' : List (ℕ × Shared)) (n k : ℕ) (digest : List ℕ) (x : Record) (keeps : Bool) → HasLeft families families' n keeps →
    0 < (shared_at families' k).count → kept_under (shared_at families' k) digest x ≡ kept_under (shared_at families k) digest x
same_shared families families' n k digest x keeps left some = grind (arith, nat_tests, left.others k, left.here)

-- counts of what is seen are counts of the records
pub count_seen : (families : List (ℕ × Shared)) (es : List (List ℕ × Record)) (t : ℕ) → kept_unexpired (all_kept families es) t ≡ count_by (is_live_at t) (values_of es)
count_seen families es t = count-map (kept_in families) (λ k. is_unexpired t k.grant) es ∙ sym (count-map (λ e. e.1) (is_live_at t) es)

-- there is one fewer
pub fewer_entries : (digest : List ℕ) (es es' : List (List ℕ × Record)) (r : Record) → HasTaken es es' digest r → length es' + 1 ≡ length es
fewer_entries digest es es' r has =
    let sums = sum_by-remove_entry (λ (x : Record). 1) (bytes_eq digest) es in
    let at = has.found in
    let all = λ (xs : List (List ℕ × Record)). each_one xs in
    let left = all (remove_entry (bytes_eq digest) es) in
    let whole = all es in
    rw has.taken (grind (arith, sums, at, left, whole))
  where
    each_one : (xs : List (List ℕ × Record)) → sum_by (λ (x : Record). 1) (values_of xs) ≡ length xs
    each_one [] = refl
    each_one (x ∷ xs) = let more = each_one xs in let sums = sum_by-cons (λ (y : Record). 1) x.1 (values_of xs) in omega (arith, more, sums)

-- one is gone that had expired
pub dropped_one : (families families' : List (ℕ × Shared)) (es es' : List (List ℕ × Record)) (digest : List ℕ) (r : Record) (moment : ℕ) (keeps : Bool) →
    IsDistinct bytes_eq (keys_of es) → IsDistinct bytes_eq (keys_of es') → IsCounted families' es' →
    lookup (bytes_eq digest) es ≡ Some r → expiry r ≤ moment → IsPermutation (remove_entry (bytes_eq digest) es) es' →
    ((d : List ℕ) → lookup (bytes_eq d) es' ≡ cond (bytes_eq digest d) None (lookup (bytes_eq d) es)) → HasLeft families families' r.family keeps →
    TellsSame (all_kept families es) (all_kept families' es') moment
dropped_one families families' es es' digest r moment keeps once once' counted' at late taken others left = record {
  finds = λ d t le. found families' es' d t once' ∙ same_shown d t le ∙ sym (found families es d t once);
  counts = λ t le. (let sums = count_without (is_live_at t) digest es es' r at taken in
      let dead = expired t le in
      count_seen families' es' t ∙ grind (arith, sums, dead) ∙ sym (count_seen families es t));
}
  where
    expired : (t : ℕ) → moment ≤ t → is_live_at t r ≡ false
    expired t le = grind (arith, nat_tests)

    kept_shown : (d : List ℕ) (t : ℕ) (o : Option Record) → lookup (bytes_eq d) es' ≡ o → shown families' d t o ≡ shown families d t o
    kept_shown d t None is = refl
    kept_shown d t (Some x) is =
        let some = member_counted d es' x is in
        let same = counted' x.family in
        ap (λ k. cond (is_live_at t x) (Some k) None) (same_shared families families' r.family x.family d x keeps left (omega (arith, some, same)))

    same_shown : (d : List ℕ) (t : ℕ) → moment ≤ t → shown families' d t (lookup (bytes_eq d) es') ≡ shown families d t (lookup (bytes_eq d) es)
    same_shown d t le =
        let is = (bytes_eq-Decides digest d).0 in
        let dead = expired t le in
        let same = kept_shown d t (lookup (bytes_eq d) es') refl in
        let other = others d in
        grind (arith, is, dead, same, other, at)

-- the family of what is kept has records
pub kept_counted : (families : List (ℕ × Shared)) (es : List (List ℕ × Record)) (digest : List ℕ) (m : ℕ) (k : Kept) → IsDistinct bytes_eq (keys_of es) → IsCounted families es →
    kept_at (all_kept families es) digest m ≡ Some k → 0 < (shared_at families k.grant.family).count
kept_counted families es digest m k once counted at = shown_cases (lookup (bytes_eq digest) es) refl (sym (found families es digest m once) ∙ at)
  where
    shown_cases : (o : Option Record) → lookup (bytes_eq digest) es ≡ o → shown families digest m o ≡ Some k → 0 < (shared_at families k.grant.family).count
    shown_cases None is h = cc
    shown_cases (Some x) is h = let some = member_counted digest es x is in let count = counted x.family in grind (arith, h, some, count)
