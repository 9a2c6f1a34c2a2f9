-- The tables as what has expired goes.
use Rattle.std.proofs.Common.{◌≡◌, ◌<◌, ◌≤◌, ℕ, List, Option, Some, None, true, Bool, cond, refl, ap, ◌∙◌, sym, subst, arith}
use Rattle.std.specs.Prelude.{nat_lt}
use Rattle.std.proofs.lemmas.List.Sorted.{IsPermutation-refl}
use Rattle.std.proofs.lemmas.Map.{lookup-remove_entry}
use Rattle.token_store.proofs.Names.{OwnerKey, IsDistinct, IsPermutation, bytes_eq, family_numbered, keys_of, list_any, lookup, nat_list_eq_equiv, remove_entry, values_of, Record, Shared}
use Rattle.token_store.proofs.Names.{expiry, expiry_of, is_member_at, shared_at, AllHomed, AllLast, AllLive, HasLeft, HasTaken, IsCounted, IsOwned, Kept, SeenSame, TellsSame, Ties, all_kept, nat_tests}
use Rattle.token_store.proofs.Dropping.{count_without, counted_without, dropped_one, fewer_members, member_counted, same_shared}
use Rattle.token_store.proofs.Lasting.{any_counted, dead_member, lasts_as}

-- what has not expired has no expiry that has come
pub all_live : (es : List (List ℕ × Record)) (m : ℕ) → AllLast expiry es m → AllLive es m
all_live es m all d t at = by (lookup (bytes_eq d) es) refl at
  where
    by : (o : Option Record) → lookup (bytes_eq d) es ≡ o → expiry_of o ≡ Some t → m < t
    by None is none = cc
    by (Some r) is some = let lasts = all d r is in grind (arith, some, lasts)

-- a family that is kept looks as it did
pub left_seen : (families families' : List (ℕ × Shared)) (n : ℕ) (keeps : Bool) → HasLeft families families' n keeps → keeps ≡ true → SeenSame families families'
left_seen families families' n keeps left is k = let other = left.others k in grind (arith, nat_tests, left.here, other, is)

-- A record that had expired is gone, and its family with the last, unless that is kept.
module _ (families families' : List (ℕ × Shared)) (es es' : List (List ℕ × Record)) (owners owners' : List OwnerKey) (last swept swept' : ℕ) (keeps : Bool) (digest : List ℕ) (r : Record) (tied : Ties families es owners last swept)
    (once' : IsDistinct bytes_eq (keys_of es')) (has : HasTaken es es' digest r) (left : HasLeft families families' r.family keeps) where
  moved : IsPermutation (remove_entry (bytes_eq digest) es) es'
  moved = subst (λ (xs : List (List ℕ × Record)). IsPermutation (remove_entry (bytes_eq digest) es) xs) (sym has.taken) (IsPermutation-refl (remove_entry (bytes_eq digest) es))

  finds : (d : List ℕ) → lookup (bytes_eq d) es' ≡ cond (bytes_eq digest d) None (lookup (bytes_eq d) es)
  finds d = ap (λ (xs : List (List ℕ × Record)). lookup (bytes_eq d) xs) has.taken ∙ lookup-remove_entry nat_list_eq_equiv (bytes_eq digest) (nat_list_eq_equiv.congr digest) d es tied.once

  counted' : IsCounted families' es'
  counted' = counted_without families families' es es' digest r keeps tied.counted has.found moved left

  pub gone_same : (moment : ℕ) → expiry r ≤ moment → TellsSame (all_kept families es) (all_kept families' es') moment
  gone_same moment late = dropped_one families families' es es' digest r moment keeps tied.once once' counted' has.found late moved finds left

  homed : AllHomed families' es'
  homed d x at =
      let some = member_counted d es' x at in
      let count = counted' x.family in
      let was : lookup (bytes_eq d) es ≡ Some x = (let is = finds d in grind (arith, is, at)) in
      tied.homed d x was ∙ ap (λ (k : Kept). k.grant.client) (sym (same_shared families families' r.family x.family d x keeps left (omega (arith, some, count))))

  until_same : (n : ℕ) (s : Shared) → family_numbered families' n ≡ Some s → s.until ≡ (shared_at families n).until
  until_same n s at = let other = left.others n in let here = left.here in grind (arith, nat_tests, other, here, at)

  any_same : expiry r ≤ swept' → swept ≤ swept' → (n t : ℕ) → swept' ≤ t → list_any (is_member_at n t) (values_of es') ≡ nat_lt t (shared_at families n).until
  any_same late later n t le =
      let sums = count_without (is_member_at n t) digest es es' r has.found moved in
      let dead = dead_member n t r (omega (arith, late, le)) in
      let any = any_counted (is_member_at n t) (values_of es) in
      let any' = any_counted (is_member_at n t) (values_of es') in
      let before = tied.lasting n t (omega (arith, later, le)) in
      grind (arith, sums, dead, any, any', before)

  pub gone_tied : expiry r ≤ swept' → swept ≤ swept' → (IsOwned families owners → IsOwned families' owners') → Ties families' es' owners' last swept'
  gone_tied late later owned = record {
    once = once';
    homed = homed;
    lasting = λ n t le. lasts_as families' es' n t (shared_at families n).until counted' (any_same late later n t le) (λ s at. until_same n s at);
    counted = counted';
    owned = owned tied.owned;
    below = λ n lt. (let was = tied.below n lt in let less = fewer_members es es' digest r has.found moved n in omega (arith, was, less));
  }
