-- The tables without the families that have no records.
use Rattle.std.proofs.Common.{◌≡◌, ◌≤◌, ℕ, List, [], ◌∷◌, Option, Some, None, Bool, true, eqb, refl, ap, sym, arith}
use Rattle.token_store.proofs.Names.{family_numbered, turned, is_at, list_any, is_some, count_by-cons, values_of, Record, Shared, shared_at, all_kept, member_count, has_owner, OwnerKey, owner_cmp, where_peopled}
use Rattle.token_store.proofs.Names.{nat_tests, IsCounted, Ties}
use Rattle.token_store.proofs.Dropping.{member_counted}
use Rattle.token_store.proofs.Lasting.{lasts_as}
use Rattle.std.specs.Prelude.{◌&&◌, filter, nat_lt}
use Rattle.std.specs.Option.{option_and_then}
use Rattle.std.proofs.lemmas.Map.Entries.{option_filter}
use Rattle.token_store.proofs.Tying.{owner_at}

pub peopled_is : (o : Option Shared) → option_filter (λ s. nat_lt 0 s.count) o ≡ option_and_then where_peopled o
peopled_is None = refl
peopled_is (Some s) = refl

-- some of those that are left pass, where what passes is left or is not
any_left : {X : Type 0} (p left : X → Bool) (b : Bool) (xs : List X) → ((x : X) → p x ≡ true → left x ≡ b) → list_any p (filter left xs) ≡ (list_any p xs && b)
any_left p left b [] same = refl
any_left p left b (x ∷ xs) same = let more = any_left p left b xs same in let here = same x in grind (arith, more, here)

-- the index, without the families that are not there
pub known_owners : (families : List (ℕ × Shared)) (owners : List OwnerKey) (q : OwnerKey) →
    has_owner (filter (λ k. is_some (family_numbered families (turned k.1))) owners) q ≡ (has_owner owners q && is_some (family_numbered families (turned q.1)))
known_owners families owners q =
    any_left (is_at (owner_cmp q)) (λ (k : OwnerKey). is_some (family_numbered families (turned k.1))) (is_some (family_numbered families (turned q.1))) owners
    (λ k at. ap (λ n. is_some (family_numbered families (turned n))) (sym (owner_at q k at).1.1))

-- all records are seen as before
pub seen_peopled : (old new : List (ℕ × Shared)) (es : List (List ℕ × Record)) → ((k : ℕ) → member_count es k ≤ (shared_at old k).count) →
    ((k : ℕ) → family_numbered new k ≡ option_and_then where_peopled (family_numbered old k)) → all_kept new es ≡ all_kept old es
seen_peopled old new [] counted peopled = refl
seen_peopled old new (e ∷ es) counted peopled =
    let sums = λ (k : ℕ). count_by-cons (λ x. eqb x.family k) e.1 (values_of es) in
    let tail = seen_peopled old new es (λ k. (let more = sums k in let le = counted k in omega (arith, more, le))) peopled in
    let here = sums e.1.family in
    let le = counted e.1.family in
    let is = peopled e.1.family in
    grind (arith, nat_tests, tail, here, le, is)

-- and the tables tell of one another
pub tied_peopled : (old new : List (ℕ × Shared)) (es : List (List ℕ × Record)) (owners owners' : List OwnerKey) (last swept : ℕ) → ((k : ℕ) → family_numbered new k ≡ option_and_then where_peopled (family_numbered old k)) →
    ((key : OwnerKey) → has_owner owners' key ≡ (has_owner owners key && is_some (family_numbered new (turned key.1)))) → Ties old es owners last swept → Ties new es owners' last swept
tied_peopled old new es owners owners' last swept peopled known tied = record {
  once = tied.once;
  homed = λ d r at. (let some = member_counted d es r at in let count = tied.counted r.family in let is = peopled r.family in let home = tied.homed d r at in grind (arith, nat_tests, some, count, is, home));
  lasting = λ n t le. lasts_as new es n t (shared_at old n).until counted' (tied.lasting n t le) (λ s at. (let is = peopled n in grind (arith, nat_tests, is, at)));
  counted = counted';
  owned = λ key. (let was = tied.owned key in let is = known key in let left = peopled (turned key.1) in grind (arith, nat_tests, was, is, left));
  below = tied.below;
}
  where
    counted' : IsCounted new es
    counted' n = let is = peopled n in let was = tied.counted n in grind (arith, nat_tests, is, was)
