-- What is counted among what is kept is counted in the history.
use Rattle.std.proofs.Common.{◌≡◌, ◌≤◌, ◌+◌, ℕ, List, [], ◌∷◌, Option, Some, None, Bool, true, false, cond, refl, ap, ◌∙◌, sym, arith}
use Rattle.token_store.proofs.Names.{find, count_by, bytes_eq, is_some, nat_le, kept_at, bytes_eq-Decides, count_by-cons, find-map, find-uncounted}
use Rattle.token_store.proofs.Names.{Event, Grant, grants, grant_at, is_named, is_unexpired, Kept, Record, Shared, FitsHistory, all_kept, kept_in, is_live_at, shared_at, to_keep, values_of, ◌==◌, if◌then◌else◌}
use Rattle.std.specs.Prelude.{map, option_map, length, ◌&&◌}
use Rattle.consent.specs.History.{are_taken, has_client_room, has_room, is_taken, is_unexpired_of, unexpired_of}
use Rattle.token_store.specs.declared.quota.Quota.{Quota}
use Rattle.token_store.specs.Fits.{refusal, refusal_by}
use Rattle.token_store.specs.FitsParts.{are_kept, has_kept_client_room, kept_refusal}
use Rattle.token_store.specs.Kept.{kept_unexpired_of}
use Rattle.token_store.specs.RecordsParts.{is_live_of}
use Rattle.shelf.specs.Shelved.{lasts_of}
use Rattle.token_store.proofs.Names.{client_of, expiry, keys_of, lookup, lookup-none, nat_list_eq_equiv, none_past_head, AllHomed, IsDistinct, IsDistinct-tail}
use Rattle.token_store.proofs.Looking.{count-map}

-- WITHOUT ONE

-- the list without the first that passes
abbrev without : {X : Type 0} → (X → Bool) → List X → List X
without p [] = []
without p (x ∷ xs) = if p x then xs else x ∷ without p xs

count-without : {X : Type 0} (p q : X → Bool) (xs : List X) (x : X) → find p xs ≡ Some x →
    count_by q (without p xs) + cond {A = ℕ} (q x) 1 0 ≡ count_by q xs
count-without p q [] x at = cc
count-without p q (y ∷ ys) x at =
    let whole = count_by-cons q y ys in
    let left = count_by-cons q y (without p ys) in
    let more = count-without p q ys x in
    grind (arith, whole, left, more, at)

find-without : {X : Type 0} (p q : X → Bool) (xs : List X) → ((x : X) → p x ≡ true → q x ≡ false) → find q (without p xs) ≡ find q xs
find-without p q [] out = refl
find-without p q (x ∷ xs) out = let more = find-without p q xs out in let here = out x in grind (arith, more, here)

-- WHERE EACH DIGEST NAMES THE SAME

-- nothing is counted where no digest names anything
none_counted : (m : ℕ) (q : Grant → Bool) (gs : List Grant) → ((g : Grant) → q g ≡ true → is_unexpired m g ≡ true) →
    ((d : List ℕ) → find (is_named d m) gs ≡ None) → count_by q gs ≡ 0
none_counted m q [] live none = refl
none_counted m q (g ∷ gs) live none =
    let sums = count_by-cons q g gs in
    let own = (bytes_eq-Decides g.digest g.digest).1 refl in
    let here = none g.digest in
    let is = live g in
    let rest : (d : List ℕ) → find (is_named d m) gs ≡ None = λ d. (let all = none d in grind (arith, all)) in
    let more = none_counted m q gs live rest in
    grind (arith, sums, own, here, is, more)

-- as many pass a test that only unexpired ones do
pub counts_alike : (m : ℕ) (q : Grant → Bool) (xs ys : List Grant) → ((g : Grant) → q g ≡ true → is_unexpired m g ≡ true) →
    ((d : List ℕ) → count_by (is_named d m) xs ≤ 1) → ((d : List ℕ) → count_by (is_named d m) ys ≤ 1) →
    ((d : List ℕ) → find (is_named d m) xs ≡ find (is_named d m) ys) → count_by q xs ≡ count_by q ys
counts_alike m q [] ys live one one' same = sym (none_counted m q ys live (λ d. sym (same d)))
counts_alike m q (a ∷ xs) ys live one one' same = by (is_unexpired m a) refl (λ zs. counts_alike m q xs zs live few)
  where
    few : (d : List ℕ) → count_by (is_named d m) xs ≤ 1
    few d = let sums = count_by-cons (is_named d m) a xs in let all = one d in omega (arith, sums, all)

    rest : is_unexpired m a ≡ true → bytes_eq a.digest a.digest ≡ true → find (is_named a.digest m) ys ≡ Some a → (d : List ℕ) →
        find (is_named d m) xs ≡ find (is_named d m) (without (is_named a.digest m) ys)
    rest alive own found d = by_name (bytes_eq d a.digest) refl
      where
        by_name : (b : Bool) → bytes_eq d a.digest ≡ b → find (is_named d m) xs ≡ find (is_named d m) (without (is_named a.digest m) ys)
        by_name true its =
            let sums = count_by-cons (is_named d m) a xs in
            let all = one d in
            let here : is_named d m a ≡ true = grind (arith, its, alive) in
            let none : count_by (is_named d m) xs ≡ 0 = grind (arith, sums, all, here) in
            let is : d ≡ a.digest = (bytes_eq-Decides d a.digest).0 its in
            let less = count-without (is_named a.digest m) (is_named a.digest m) ys a found in
            let all' = one' a.digest in
            let named : is_named a.digest m a ≡ true = grind (arith, own, alive) in
            let none' : count_by (is_named a.digest m) (without (is_named a.digest m) ys) ≡ 0 = grind (arith, less, all', named) in
            find-uncounted (is_named d m) xs none
            ∙ sym (ap (λ x. find (is_named x m) (without (is_named a.digest m) ys)) is ∙ find-uncounted (is_named a.digest m) (without (is_named a.digest m) ys) none')
        by_name false other =
            let all = same d in
            let out : (x : Grant) → is_named a.digest m x ≡ true → is_named d m x ≡ false =
            λ x named. (let its = (bytes_eq-Decides a.digest x.digest).0 in let theirs = (bytes_eq-Decides d x.digest).0 in
            let not_same = (bytes_eq-Decides d a.digest).1 in grind (arith, named, its, theirs, not_same, other)) in
            let kept = find-without (is_named a.digest m) (is_named d m) ys out in
            grind (arith, all, other, kept)

    by : (b : Bool) → is_unexpired m a ≡ b →
        ((zs : List Grant) → ((d : List ℕ) → count_by (is_named d m) zs ≤ 1) → ((d : List ℕ) → find (is_named d m) xs ≡ find (is_named d m) zs) → count_by q xs ≡ count_by q zs) →
        count_by q (a ∷ xs) ≡ count_by q ys
    by false dead more =
        let sums = count_by-cons q a xs in
        let is = live a in
        let these = more ys one' (λ d. (let all = same d in grind (arith, all, dead))) in
        grind (arith, sums, is, these, dead)
    by true alive more =
        let own = (bytes_eq-Decides a.digest a.digest).1 refl in
        let found : find (is_named a.digest m) ys ≡ Some a = (let all = same a.digest in grind (arith, all, alive, own)) in
        let left = λ (p : Grant → Bool). count-without (is_named a.digest m) p ys a found in
        let sums = count_by-cons q a xs in
        let less = left q in
        let these = more (without (is_named a.digest m) ys) (λ d. (let fewer = left (is_named d m) in let all = one' d in omega (arith, fewer, all))) (rest alive own found) in
        omega (arith, sums, less, these)

-- WHAT IS KEPT

-- a code or token without its texts
abbrev bare : Grant → Grant
bare g = record g { redirect = []; challenge = [] }

-- what is kept and what the history has are alike, but for texts
pub kept_alike : (kept : List Kept) (history : List Event) (m : ℕ) (q : Grant → Bool) → ((g : Grant) → q g ≡ true → is_unexpired m g ≡ true) →
    ((g : Grant) → q (bare g) ≡ q g) → FitsHistory kept history m → count_by (λ k. q k.grant) kept ≡ count_by q (grants history)
kept_alike kept history m q live blind fits =
    ap (λ p. count_by p kept) (λ i k. sym (blind k.grant) i)
    ∙ sym (count-map (λ (k : Kept). bare k.grant) q kept)
    ∙ counts_alike m q (map (λ (k : Kept). bare k.grant) kept) (map bare (grants history)) live
    (λ d. rw (count-map (λ (k : Kept). bare k.grant) (is_named d m) kept) (fits.once d))
    (λ d. rw (count-map bare (is_named d m) (grants history)) (fits.is_history.single d))
    (λ d. find-map (λ (k : Kept). bare k.grant) (is_named d m) kept ∙ ap (option_map (λ (k : Kept). bare k.grant)) (fits.answers d m (omega arith))
    ∙ grant_kept d (grant_at history d m) ∙ sym (find-map bare (is_named d m) (grants history)))
    ∙ count-map bare q (grants history) ∙ ap (λ p. count_by p (grants history)) (λ i g. blind g i)
  where
    grant_kept : (d : List ℕ) (o : Option Grant) → option_map (λ (k : Kept). bare k.grant) (option_map (to_keep history d m) o) ≡ option_map bare o
    grant_kept d None = refl
    grant_kept d (Some g) = refl

-- as many of a client's are unexpired
pub client_count : (kept : List Kept) (history : List Event) (client m : ℕ) → FitsHistory kept history m → kept_unexpired_of kept client m ≡ unexpired_of history client m
client_count kept history client m fits = kept_alike kept history m (is_unexpired_of client m) (λ g is. grind (arith, is)) (λ g. refl) fits

and_flip : (a b : Bool) → (a && b) ≡ (b && a)
and_flip true true = refl
and_flip true false = refl
and_flip false true = refl
and_flip false false = refl

-- counts of a client's are counts of the records
pub client_seen : (families : List (ℕ × Shared)) (es : List (List ℕ × Record)) (client t : ℕ) →
    count_by (is_live_of families client t) (values_of es) ≡ kept_unexpired_of (all_kept families es) client t
client_seen families es client t =
    count-map (λ e. e.1) (is_live_of families client t) es
    ∙ ap (λ p. count_by p es) (λ i e. and_flip (is_live_at t e.1) ((shared_at families e.1.family).client == client) i)
    ∙ sym (count-map (kept_in families) (λ k. is_unexpired_of client t k.grant) es)

-- each record is of its family's client
rest_homed : (families : List (ℕ × Shared)) (e : List ℕ × Record) (es : List (List ℕ × Record)) → IsDistinct bytes_eq (keys_of (e ∷ es)) → AllHomed families (e ∷ es) → AllHomed families es
rest_homed families e es once all d r at = all d r past
  where
    past : cond {A = Option Record} (bytes_eq d e.0) (Some e.1) (lookup (bytes_eq d) es) ≡ Some r
    past =
        let none : bytes_eq d e.0 ≡ true → lookup (bytes_eq d) es ≡ None = λ is. lookup-none (bytes_eq d) es (none_past_head nat_list_eq_equiv d e es once is) in
        grind (arith, at, none)

pub client_homed : (families : List (ℕ × Shared)) (es : List (List ℕ × Record)) (client t : ℕ) → IsDistinct bytes_eq (keys_of es) → AllHomed families es →
    count_by (lasts_of expiry client_of client t) (values_of es) ≡ count_by (is_live_of families client t) (values_of es)
client_homed families [] client t once all = refl
client_homed families (e ∷ es) client t once all =
    let sums = count_by-cons (lasts_of expiry client_of client t) e.1 (values_of es) in
    let sums' = count_by-cons (is_live_of families client t) e.1 (values_of es) in
    let own = (bytes_eq-Decides e.0 e.0).1 refl in
    let home : client_of e.1 ≡ (shared_at families e.1.family).client = all e.0 e.1 (grind (arith, own)) in
    let more = client_homed families es client t (IsDistinct-tail bytes_eq e.0 (keys_of es) once) (rest_homed families e es once all) in
    grind (arith, sums, sums', home, more)

-- WHY CODES AND TOKENS ARE REFUSED

-- a digest is taken by what is kept where it is in the history
pub same_taken : (kept : List Kept) (history : List Event) (m : ℕ) (digests : List (List ℕ)) → FitsHistory kept history m → are_kept kept m digests ≡ is_taken history m digests
same_taken kept history m digests fits = ap (λ in_use. are_taken in_use digests) (λ i d. taken d i)
  where
    some_kept : (d : List ℕ) (o : Option Grant) → is_some (option_map (to_keep history d m) o) ≡ is_some o
    some_kept d None = refl
    some_kept d (Some g) = refl

    taken : (d : List ℕ) → is_some (kept_at kept d m) ≡ is_some (grant_at history d m)
    taken d = ap is_some (fits.answers d m (omega arith)) ∙ some_kept d (grant_at history d m)

same_client_room : (limit : Option ℕ) (kept : List Kept) (history : List Event) (client m : ℕ) (digests : List (List ℕ)) → FitsHistory kept history m →
    has_kept_client_room limit kept client m (length digests) ≡ has_client_room limit history client m digests
same_client_room None kept history client m digests fits = refl
same_client_room (Some limit) kept history client m digests fits = ap (λ n. nat_le (n + length digests) limit) (client_count kept history client m fits)

pub same_refusal : (quota : Quota) (kept : List Kept) (history : List Event) (m : ℕ) (digests : List (List ℕ)) → FitsHistory kept history m →
    kept_refusal quota kept m digests ≡ refusal quota history m digests
same_refusal quota kept history m digests fits =
    ap (λ n. refusal_by (nat_le (n + length digests) quota.records) (has_kept_client_room quota.of_client kept quota.client m (length digests)) (are_kept kept m digests))
    (fits.count m (omega arith))
    ∙ ap (λ room. refusal_by (has_room quota.records history m digests) room (are_kept kept m digests)) (same_client_room quota.of_client kept history quota.client m digests fits)
    ∙ ap (refusal_by (has_room quota.records history m digests) (has_client_room quota.of_client history quota.client m digests)) (same_taken kept history m digests fits)
