-- What ties the tables, through a change of them.
use Rattle.std.proofs.Common.{◌≡◌, ◌≢◌, ◌<◌, ◌≤◌, ◌+◌, ◌-◌, ℕ, List, Option, Some, None, Bool, true, false, refl, ap, ◌∙◌, sym, arith}
use Rattle.std.specs.Prelude.{◌%◌}
use Rattle.token_store.specs.Records.{turned}
use Rattle.token_store.proofs.Names.{family_numbered, has_owner, if◌then◌else◌, nat_eq, is_coded, is_gt, is_at, key_of, HasStruck, IsFromStart, OwnerKey, Shared, owner_cmp, start_of, is_past, IsOwned, nat_tests}

-- ORDERS

pub owner_at : (k q : OwnerKey) → is_at (owner_cmp k) q ≡ true → (k.0.0 ≡ q.0.0) × ((k.0.1 ≡ q.0.1) × (k.1 ≡ q.1))
owner_at k q h = grind (arith, nat_tests)

pub owner_here : (k q : OwnerKey) → k.0.0 ≡ q.0.0 → k.0.1 ≡ q.0.1 → k.1 ≡ q.1 → is_at (owner_cmp k) q ≡ true
owner_here k q owner client number = grind (arith, nat_tests, owner, client, number)

-- THE OWNERS' INDEX

pub keyless : (s : Shared) (n : ℕ) (q : OwnerKey) → key_of s n ≡ None → is_coded q (Some s) ≡ false
keyless s n q none = by s.ended s.coded refl refl
  where
    by : (e c : Bool) → s.ended ≡ e → s.coded ≡ c → is_coded q (Some s) ≡ false
    by true c is co = grind (arith, is)
    by false false is co = grind (arith, is, co)
    by false true is co = grind (arith, is, co, none)

pub turned_turned : (n : ℕ) → turned (turned n) ≡ n
unfolding turned
turned_turned n = by (n - n % 16 + (15 - n % 16)) refl
  where
    by : (m : ℕ) → m ≡ n - n % 16 + (15 - n % 16) → m - m % 16 + (15 - m % 16) ≡ n
    by m is = omega (arith, is)

pub coded_at : (s : Shared) (n : ℕ) (key q : OwnerKey) → key_of s n ≡ Some key → turned q.1 ≡ n → is_coded q (Some s) ≡ is_at (owner_cmp key) q
coded_at s n key q some here = by s.ended s.coded refl refl
  where
    by : (e c : Bool) → s.ended ≡ e → s.coded ≡ c → is_coded q (Some s) ≡ is_at (owner_cmp key) q
    by true c is co = grind (arith, is, some)
    by false false is co = grind (arith, is, co, some)
    by false true is co =
        let at = owner_at key q in
        let from = owner_here key q in
        let place : q.1 ≡ turned n = sym (turned_turned q.1) ∙ ap turned here in
        grind (arith, nat_tests, is, co, some, place, at, from)

pub key_number : (s : Shared) (n : ℕ) (key : OwnerKey) → key_of s n ≡ Some key → key.1 ≡ turned n
key_number s n key some = grind (arith, some)

pub not_among : (b : Bool) → (b ≡ true → ⊥) → b ≡ false
not_among b h = grind arith

-- nobody's is there once it was struck, where it alone was there
struck_away : (at b : Bool) → b ≡ at → (if at then false else b) ≡ false
struck_away true b is = refl
struck_away false b is = is

-- with a family that is in no index, and without its key
pub owned_without : (families families' : List (ℕ × Shared)) (owners owners' : List OwnerKey) (n : ℕ) (s : Shared) (key : Option OwnerKey) → key_of s n ≡ key →
    family_numbered families n ≡ Some s → IsOwned families owners → HasStruck owners owners' key →
    ((q : OwnerKey) → is_coded q (family_numbered families' n) ≡ false) → ((k : ℕ) → k ≢ n → family_numbered families' k ≡ family_numbered families k) →
    IsOwned families' owners'
owned_without families families' owners owners' n s None is found owned struck gone others q = ap (λ o. has_owner o q) struck ∙ owned q ∙ by (nat_eq (turned q.1) n) refl
  where
    by : (b : Bool) → nat_eq (turned q.1) n ≡ b → is_coded q (family_numbered families (turned q.1)) ≡ is_coded q (family_numbered families' (turned q.1))
    by true is_n =
        let same : turned q.1 ≡ n = grind (arith, nat_tests, is_n) in
        ap (λ k. is_coded q (family_numbered families k)) same ∙ ap (is_coded q) found ∙ keyless s n q is ∙ sym (gone q) ∙ ap (λ k. is_coded q (family_numbered families' k)) (sym same)
    by false is_n =
        let ne : turned q.1 ≢ n = λ same. absurd (grind (arith, nat_tests, is_n, same)) in
        ap (is_coded q) (sym (others (turned q.1) ne))
owned_without families families' owners owners' n s (Some key) is found owned struck gone others q = struck q ∙ by (nat_eq (turned q.1) n) refl
  where
    by : (b : Bool) → nat_eq (turned q.1) n ≡ b → (if is_at (owner_cmp key) q then false else has_owner owners q) ≡ is_coded q (family_numbered families' (turned q.1))
    by true is_n =
        let same : turned q.1 ≡ n = grind (arith, nat_tests, is_n) in
        let was = owned q ∙ ap (λ k. is_coded q (family_numbered families k)) same ∙ ap (is_coded q) found ∙ coded_at s n key q is same in
        struck_away (is_at (owner_cmp key) q) (has_owner owners q) was ∙ sym (gone q) ∙ ap (λ k. is_coded q (family_numbered families' k)) (sym same)
    by false is_n =
        let ne : turned q.1 ≢ n = λ same. absurd (grind (arith, nat_tests, is_n, same)) in
        let apart = not_among (is_at (owner_cmp key) q) (λ at. ne (ap turned (sym (owner_at key q at).1.1) ∙ ap turned (key_number s n key is) ∙ turned_turned n)) in
        ap (λ b. if b then false else has_owner owners q) apart ∙ owned q ∙ ap (is_coded q) (sym (others (turned q.1) ne))

-- THE NEXT IN THE INDEX

-- what lies between such a key and another of one owner and client is of the two
pub squeezed : (parties : ℕ × ℕ) (after : Option ℕ) (n : ℕ) (x : OwnerKey) → IsFromStart owner_cmp (start_of parties after) x → is_gt (owner_cmp x (parties, n)) ≡ false →
    (x.0.0 ≡ parties.0) × (x.0.1 ≡ parties.1)
squeezed parties None n x low high = grind (arith, nat_tests)
squeezed parties (Some last) n x low high = grind (arith, nat_tests)

pub start_after : (parties : ℕ × ℕ) (after : Option ℕ) (n : ℕ) → is_past after n ≡ false → IsFromStart owner_cmp (start_of parties after) (parties, n)
start_after parties None n later = grind (arith, nat_tests)
start_after parties (Some last) n later = grind (arith, nat_tests, later)

pub after_start : (parties : ℕ × ℕ) (after : Option ℕ) (n : ℕ) → IsFromStart owner_cmp (start_of parties after) (parties, n) → is_past after n ≡ false
after_start parties None n from = refl
after_start parties (Some last) n from = grind (arith, nat_tests)

pub le_number : (parties : ℕ × ℕ) (i n : ℕ) → is_gt (owner_cmp (parties, i) (parties, n)) ≡ false → i ≤ n
le_number parties i n h = grind (arith, nat_tests)
