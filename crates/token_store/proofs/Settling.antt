-- The tables as a record that was about to come has come.
use Rattle.std.proofs.Common.{◌≡◌, ◌<◌, ◌≤◌, ℕ, ◌+◌, List, [], ◌∷◌, ◌++◌, Option, Some, None, Bool, true, false, cond, length, refl, ap, ◌∙◌, sym, subst, arith}
use Rattle.token_store.proofs.Names.{OwnerKey, turned, ◌==◌, is_some, unwrap_or, family_numbered, count_by, list_any, IsPermutation, option_or, bytes_eq, lookup, remove_entry, sum_by-remove_entry}
use Rattle.token_store.proofs.Names.{values_of, find-append, count_by-le-length, length-map, bytes_eq-Decides, is_named, is_unexpired, Record}
use Rattle.token_store.proofs.Names.{Shared, Kept, kept_at, shared_at, expiry, kept_under, all_kept, is_member_at, AllHomed, IsCounted, IsOwned, Puts}
use Rattle.token_store.proofs.Names.{Ties, is_live_at, HasLeft, HasEntered, TellsSame, SharesSame, nat_tests}
use Rattle.token_store.specs.Records.{client_in, client_of, homed, homed_given}
use Rattle.token_store.specs.declared.record.Given.{Given}
use Rattle.token_store.specs.declared.record.Given.TheVariants.{Code, Token, UsedCode}
use Rattle.std.specs.Prelude.{max, nat_lt, option_map, ◌&&◌}
use Rattle.token_store.proofs.Lasting.{any_counted, dead_member, lasts_as}
use Rattle.std.proofs.lemmas.List.Sorted.{IsPermutation-map, sum_by_pushed}
use Rattle.token_store.proofs.Looking.{shown, found, count-push}
use Rattle.token_store.proofs.Dropping.{same_shared, member_counted, count_seen}

-- COMING

-- as many as the record there, if there is one
abbrev count_in : (Record → Bool) → Option Record → ℕ
count_in p o = unwrap_or (option_map (λ r. cond {A = ℕ} (p r) 1 0) o) 0

-- counts of the values with one more, in the place of what was under its digest
count_put : (p : Record → Bool) (digest : List ℕ) (o : Option Record) (r : Record) (es es' : List (List ℕ × Record)) → lookup (bytes_eq digest) es ≡ o →
    IsPermutation ((digest, r) ∷ remove_entry (bytes_eq digest) es) es' → count_by p (values_of es') + count_in p o ≡ count_by p (values_of es) + cond {A = ℕ} (p r) 1 0
count_put p digest o r es es' was moved =
    let left = remove_entry (bytes_eq digest) es in
    let more = sum_by_pushed (λ x. cond {A = ℕ} (p x) 1 0) r (values_of left) (values_of es') (IsPermutation-map (λ (e : List ℕ × Record). e.1) ((digest, r) ∷ left) es' moved) in
    let less : count_by p (values_of left) + count_in p o ≡ count_by p (values_of es) =
    ap (λ x. count_by p (values_of left) + count_in p x) (sym was) ∙ sum_by-remove_entry (λ x. cond {A = ℕ} (p x) 1 0) (bytes_eq digest) es in
    omega (arith, more, less)

-- FAMILIES

pub entered_shares : (old new : List (ℕ × Shared)) (n u k : ℕ) → HasEntered old new n u → SharesSame old new k
entered_shares old new n u k entered d x = let other = entered.others k in grind (arith, other)

entered_until : (old new : List (ℕ × Shared)) (n u k : ℕ) → HasEntered old new n u → is_some (family_numbered old n) ≡ true →
    (shared_at new k).until ≡ cond {A = ℕ} (n == k) (max (shared_at old k).until u) (shared_at old k).until
entered_until old new n u k entered there = let other = entered.others k in grind (arith, nat_tests, there, other)

entered_counts : (old new : List (ℕ × Shared)) (n u k : ℕ) → HasEntered old new n u → is_some (family_numbered old n) ≡ true →
    (shared_at new k).count ≡ (shared_at old k).count + cond {A = ℕ} (n == k) 1 0
entered_counts old new n u k entered there = let other = entered.others k in grind (arith, nat_tests, there, other)

-- the record has left its family, if there is one
abbrev pub HasLeftOf : Option Record → (old new : List (ℕ × Shared)) → Type 0
HasLeftOf None old new = new ≡ old
HasLeftOf (Some x) old new = HasLeft old new x.family false

left_counts : (o : Option Record) (old new : List (ℕ × Shared)) (k : ℕ) → HasLeftOf o old new → ((x : Record) → o ≡ Some x → 0 < (shared_at old x.family).count) →
    (shared_at new k).count + count_in (λ x. x.family == k) o ≡ (shared_at old k).count
left_counts None old new k left some = grind (arith, left)
left_counts (Some x) old new k left some = let here = some x refl in grind (arith, nat_tests, left.others k, left.here, here)

left_shares : (o : Option Record) (old new : List (ℕ × Shared)) (k : ℕ) (digest : List ℕ) (x : Record) → HasLeftOf o old new → 0 < (shared_at new k).count →
    kept_under (shared_at new k) digest x ≡ kept_under (shared_at old k) digest x
left_shares None old new k digest x left some = rw left refl
left_shares (Some y) old new k digest x left some = same_shared old new y.family k digest x false left some

left_until : (o : Option Record) (old new : List (ℕ × Shared)) (k : ℕ) (s : Shared) → HasLeftOf o old new → family_numbered new k ≡ Some s → s.until ≡ (shared_at old k).until
left_until None old new k s left at = grind (arith, left, at)
left_until (Some y) old new k s left at = let other = left.others k in let here = left.here in grind (arith, nat_tests, other, here, at)

-- a record that is made one of the client's is that otherwise
module _ (home : ℕ) (r : Record) where
  pub homed_client : client_of (homed home r) ≡ home
  homed_client = by r.given
    where
      by : (g : Given) → client_in (homed_given home g) ≡ home
      by (Code client texts) = refl
      by (UsedCode client owner) = refl
      by (Token client life spent kind) = refl

  pub homed_expiry : expiry (homed home r) ≡ expiry r
  homed_expiry = by r.given
    where
      by : (g : Given) → expiry (record r { given = homed_given home g }) ≡ expiry (record r { given = g })
      by (Code client texts) = refl
      by (UsedCode client owner) = refl
      by (Token client life spent kind) = refl

  pub homed_kept : (s : Shared) (digest : List ℕ) → kept_under s digest (homed home r) ≡ kept_under s digest r
  homed_kept s digest = by r.given
    where
      by : (g : Given) → kept_under s digest (record r { given = homed_given home g }) ≡ kept_under s digest (record r { given = g })
      by (Code client texts) = refl
      by (UsedCode client owner) = refl
      by (Token client life spent kind) = refl

-- A record has come into its family, in the place of what was under its digest.
pub record Settled (families families' : List (ℕ × Shared)) (es es' : List (List ℕ × Record)) (owners' : List OwnerKey) (last swept' : ℕ) (digest : List ℕ) (r : Record) : Type 0 where
  pub tied : Ties families' es' owners' last swept'
  pub keeps : (m : ℕ) → kept_at (all_kept families es) digest m ≡ None → TellsSame (all_kept families es ++ kept_under (shared_at families r.family) digest r ∷ []) (all_kept families' es') m

-- what was there had expired by then
abbrev pub IsOver : Option Record → ℕ → Type 0
IsOver o swept = (x : Record) → o ≡ Some x → expiry x ≤ swept

-- what is not live is not shown
unshown : (families : List (ℕ × Shared)) (digest : List ℕ) (t : ℕ) (o : Option Record) → count_in (is_live_at t) o ≡ 0 → shown families digest t o ≡ None
unshown families digest t None none = refl
unshown families digest t (Some r) none = by (is_live_at t r) none
  where
    by : (b : Bool) → cond {A = ℕ} b 1 0 ≡ 0 → cond {A = Option Kept} b (Some (kept_under (shared_at families r.family) digest r)) None ≡ None
    by true none = absurd (omega (arith, none))
    by false none = refl

or_none : (o : Option Kept) → o ≡ option_or o None
or_none None = refl
or_none (Some k) = refl

pub settled : (families f f' : List (ℕ × Shared)) (es es' : List (List ℕ × Record)) (owners owners' : List OwnerKey) (last swept swept' : ℕ) (digest : List ℕ) (o : Option Record) (r : Record) →
    Ties families es owners last swept → r.family ≤ last → is_some (family_numbered families r.family) ≡ true → client_of r ≡ (shared_at families r.family).client → HasEntered families f r.family (expiry r) → HasLeftOf o f f' →
    (IsOwned f owners → IsOwned f' owners') → Puts es es' digest r o → ((d : List ℕ) → lookup (bytes_eq d) es' ≡ cond (bytes_eq digest d) (Some r) (lookup (bytes_eq d) es)) → swept ≤ swept' → IsOver o swept' →
    Settled families f' es es' owners' last swept' digest r
settled families f f' es es' owners owners' last swept swept' digest o r tied low there home entered left owned puts finds later over = record {
  tied = record {
    once = puts.once;
    homed = λ d x at. homed d x at;
    lasting = λ n t le. lasts_as f' es' n t (shared_at f n).until counted' (lasting n t le) (λ s at. left_until o f f' n s left at);
    counted = counted';
    owned = owned (λ q. (let other = entered.others (turned q.1) in let was = tied.owned q in grind (arith, other, was)));
    below = λ n lt. (let moved = count_put (λ x. x.family == n) digest o r es es' puts.found puts.moved in
        let before = tied.below n lt in
        let other : cond {A = ℕ} (r.family == n) 1 0 ≡ 0 = grind (arith, nat_tests, low, lt) in
        omega (arith, moved, before, other));
  };
  keeps = λ m none. record {
    finds = λ d t le.
        found f' es' d t puts.once ∙ one_more m none d t le ∙ ap (λ o. option_or o (cond (is_named d t k.grant) (Some k) None)) (sym (found families es d t tied.once))
        ∙ sym (find-append (λ x. is_named d t x.grant) (all_kept families es) (k ∷ []));
    counts = λ t le. (let after = count_seen f' es' t in
        let before = count_seen families es t in
        let more = count_put (is_live_at t) digest o r es es' puts.found puts.moved in
        let one = count-push (λ x. is_unexpired t x.grant) (all_kept families es) k in
        let gone : count_in (is_live_at t) o ≡ 0 = ap (count_in (is_live_at t)) (sym puts.found) ∙ dead m none t le in
        grind (arith, after, before, more, one, gone));
  };
}
  where
    k : Kept
    k = kept_under (shared_at families r.family) digest r

    counted' : IsCounted f' es'
    counted' n =
        let came = entered_counts families f r.family (expiry r) n entered there in
        let went = left_counts o f f' n left some in
        let moved = count_put (λ x. x.family == n) digest o r es es' puts.found puts.moved in
        let before = tied.counted n in
        omega (arith, came, went, moved, before)
      where
        some : (x : Record) → o ≡ Some x → 0 < (shared_at f x.family).count
        some x is =
            let member = member_counted digest es x (puts.found ∙ is) in
            let before = tied.counted x.family in
            let came = entered_counts families f r.family (expiry r) x.family entered there in
            omega (arith, member, before, came)

    -- what is found shows what its family did
    shows : (d : List ℕ) (x : Record) → lookup (bytes_eq d) es' ≡ Some x → kept_under (shared_at f' x.family) d x ≡ kept_under (shared_at families x.family) d x
    shows d x at =
        let member = member_counted d es' x at in
        let after = counted' x.family in
        left_shares o f f' x.family d x left (omega (arith, member, after)) ∙ entered_shares families f r.family (expiry r) x.family entered d x

    homed : AllHomed f' es'
    homed d x at = by (bytes_eq digest d) refl ∙ ap (λ (y : Kept). y.grant.client) (sym (shows d x at))
      where
        by : (b : Bool) → bytes_eq digest d ≡ b → client_of x ≡ (shared_at families x.family).client
        by true same = let own : x ≡ r = (let is = finds d in grind (arith, is, at, same)) in subst (λ (y : Record). client_of y ≡ (shared_at families y.family).client) (sym own) home
        by false other = tied.homed d x (let is = finds d in grind (arith, is, at, other))

    over_member : (n t : ℕ) → swept' ≤ t → (o' : Option Record) → o ≡ o' → count_in (is_member_at n t) o' ≡ 0
    over_member n t le None is = refl
    over_member n t le (Some x) is = let late = over x is in rw (dead_member n t x (omega (arith, late, le))) refl

    lasting : (n t : ℕ) → swept' ≤ t → list_any (is_member_at n t) (values_of es') ≡ nat_lt t (shared_at f n).until
    lasting n t le =
        let moved = count_put (is_member_at n t) digest o r es es' puts.found puts.moved in
        let none = over_member n t le o refl in
        let any = any_counted (is_member_at n t) (values_of es) in
        let any' = any_counted (is_member_at n t) (values_of es') in
        let before = tied.lasting n t (omega (arith, later, le)) in
        let until = entered_until families f r.family (expiry r) n entered there in
        grind (arith, nat_tests, moved, none, any, any', before, until)

    -- what was under the digest had expired
    dead : (m : ℕ) → kept_at (all_kept families es) digest m ≡ None → (t : ℕ) → m ≤ t → count_in (is_live_at t) (lookup (bytes_eq digest) es) ≡ 0
    dead m none t le = let is = found families es digest m tied.once in grind (arith, nat_tests, is, none, le)

    -- what is found shows what it did
    shown_same : (d : List ℕ) (t : ℕ) (o' : Option Record) → lookup (bytes_eq d) es' ≡ o' → shown f' d t o' ≡ shown families d t o'
    shown_same d t None at = refl
    shown_same d t (Some x) at = ap (λ y. cond (is_live_at t x) (Some y) None) (shows d x at)

    one_more : (m : ℕ) → kept_at (all_kept families es) digest m ≡ None → (d : List ℕ) (t : ℕ) → m ≤ t →
        shown f' d t (lookup (bytes_eq d) es') ≡ option_or (shown families d t (lookup (bytes_eq d) es)) (cond (is_named d t k.grant) (Some k) None)
    one_more m none d t le = shown_same d t (lookup (bytes_eq d) es') refl ∙ by (bytes_eq digest d) refl
      where
        by : (b : Bool) → bytes_eq digest d ≡ b →
            shown families d t (lookup (bytes_eq d) es') ≡ option_or (shown families d t (lookup (bytes_eq d) es)) (cond (is_named d t k.grant) (Some k) None)
        by true is =
            let same : digest ≡ d = (bytes_eq-Decides digest d).0 is in
            let own : bytes_eq digest digest ≡ true = (bytes_eq-Decides digest digest).1 refl in
            let here : lookup (bytes_eq d) es' ≡ Some r = finds d ∙ ap (λ b. cond b (Some r) (lookup (bytes_eq d) es)) is in
            let gone : shown families d t (lookup (bytes_eq d) es) ≡ None =
            subst (λ x. shown families x t (lookup (bytes_eq x) es) ≡ None) same (unshown families digest t (lookup (bytes_eq digest) es) (dead m none t le)) in
            let shows_it : shown families d t (Some r) ≡ cond (is_named d t k.grant) (Some k) None =
            subst (λ x. shown families x t (Some r) ≡ cond (is_named x t k.grant) (Some k) None) same (ap (λ b. cond (b && is_live_at t r) (Some k) None) (sym own)) in
            ap (shown families d t) here ∙ shows_it ∙ ap (λ o'. option_or o' (cond (is_named d t k.grant) (Some k) None)) (sym gone)
        by false is =
            let here : lookup (bytes_eq d) es' ≡ lookup (bytes_eq d) es = finds d ∙ ap (λ b. cond b (Some r) (lookup (bytes_eq d) es)) is in
            let apart : bytes_eq d digest ≡ false = (let from = (bytes_eq-Decides d digest).0 in let to = (bytes_eq-Decides digest d).1 in grind (arith, from, to, is)) in
            ap (shown families d t) here ∙ or_none (shown families d t (lookup (bytes_eq d) es))
            ∙ ap (λ b. option_or (shown families d t (lookup (bytes_eq d) es)) (cond (b && is_live_at t r) (Some k) None)) (sym apart)

-- no family has more records than there are
pub count_few : (families : List (ℕ × Shared)) (es : List (List ℕ × Record)) (n : ℕ) → IsCounted families es → (shared_at families n).count ≤ length es
count_few families es n counted =
    let le = count_by-le-length (λ (r : Record). r.family == n) (values_of es) in
    let len = length-map es (λ (e : List ℕ × Record). e.1) in
    let same = counted n in
    omega (arith, le, len, same)
