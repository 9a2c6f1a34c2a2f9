-- Until when something of a family is unexpired.
use Rattle.std.proofs.Common.{◌≡◌, ◌≤◌, ℕ, List, [], ◌∷◌, Option, Some, None, Bool, false, refl, ap, ◌∙◌, sym, arith}
use Rattle.std.specs.Prelude.{nat_lt}
use Rattle.token_store.proofs.Names.{◌==◌, count_by, count_by-cons, expiry, family_numbered, is_member_at, list_any, or_nothing, shared_at, values_of, IsCounted, Record, Shared, nat_tests}

-- one passes where some do
pub any_counted : (p : Record → Bool) (xs : List Record) → list_any p xs ≡ nat_lt 0 (count_by p xs)
any_counted p [] = refl
any_counted p (x ∷ xs) = let more = any_counted p xs in let sums = count_by-cons p x xs in grind (arith, nat_tests, more, sums)

-- what is unexpired of a family is of it
pub member_few : (n t : ℕ) (xs : List Record) → count_by (is_member_at n t) xs ≤ count_by (λ (r : Record). r.family == n) xs
member_few n t [] = omega arith
member_few n t (x ∷ xs) =
    let more = member_few n t xs in
    let one = count_by-cons (is_member_at n t) x xs in
    let all = count_by-cons (λ (r : Record). r.family == n) x xs in
    grind (arith, nat_tests, more, one, all)

-- what has expired is none of them
pub dead_member : (n t : ℕ) (r : Record) → expiry r ≤ t → is_member_at n t r ≡ false
dead_member n t r late = grind (arith, nat_tests, late)

-- a family that is there lasts until then, and one that is not has no records
pub lasts_as : (families : List (ℕ × Shared)) (es : List (List ℕ × Record)) (n t u : ℕ) → IsCounted families es → list_any (is_member_at n t) (values_of es) ≡ nat_lt t u →
    ((s : Shared) → family_numbered families n ≡ Some s → s.until ≡ u) → list_any (is_member_at n t) (values_of es) ≡ nat_lt t (shared_at families n).until
lasts_as families es n t u counted is known = by (family_numbered families n) refl
  where
    by : (o : Option Shared) → family_numbered families n ≡ o → list_any (is_member_at n t) (values_of es) ≡ nat_lt t (or_nothing o).until
    by None at =
        let few = member_few n t (values_of es) in
        let count = counted n in
        let any = any_counted (is_member_at n t) (values_of es) in
        grind (arith, nat_tests, few, count, any, at)
    by (Some s) at = is ∙ ap (nat_lt t) (sym (known s at))
