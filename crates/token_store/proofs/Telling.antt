-- What the store fits, by what is seen of its tables.
use Rattle.std.proofs.Common.{◌≡◌, ◌<◌, ◌≤◌, ℕ, ◌+◌, List, [], ◌∷◌, Option, Some, None, true, cond, eqb, length, refl, ap, ◌∙◌, sym, arith}
use Rattle.token_store.proofs.Names.{count_by, IsDistinct, bytes_eq, lookup, keys_of, values_of, nat_list_eq_equiv, length-map, lookup-none, none_past_head, IsDistinct-tail, bytes_eq-Decides, stand_entries}
use Rattle.token_store.proofs.Names.{count_by-cons, count_by-none, Event, is_named, Record, Shared, Tables, Kept, kept_at, kept_unexpired, FitsHistory, expiry, kept_in, kept_of, all_kept}
use Rattle.token_store.proofs.Names.{IsTied, is_live_at, is_member_at, member_count, kept_lives, AllLive, TellsSame, list_any, ◌||◌, is_some, family_numbered, nat_tests}
use Rattle.std.specs.Prelude.{option_map, nat_lt}
use Rattle.consent.specs.Seen.{seen_at}
use Rattle.token_store.specs.Found.{kept_seen}
use Rattle.token_store.proofs.Looking.{shown, found}
use Rattle.token_store.proofs.Dropping.{count_seen, has_slot}

-- at most one is seen of a digest
seen_once : (families : List (ℕ × Shared)) (es : List (List ℕ × Record)) (digest : List ℕ) (t : ℕ) → IsDistinct bytes_eq (keys_of es) →
    count_by (λ (k : Kept). is_named digest t k.grant) (all_kept families es) ≤ 1
seen_once families [] digest t distinct = omega arith
seen_once families (e ∷ es) digest t distinct =
    let rest = IsDistinct-tail bytes_eq e.0 (keys_of es) distinct in
    let sums = count_by-cons (λ (k : Kept). is_named digest t k.grant) (kept_in families e) (all_kept families es) in
    let more = seen_once families es digest t rest in
    let none : bytes_eq digest e.0 ≡ true → count_by (λ (k : Kept). is_named digest t k.grant) (all_kept families es) ≡ 0 = λ is.
    count_by-none (λ (k : Kept). is_named digest t k.grant) (all_kept families es)
    (found families es digest t rest ∙ ap (shown families digest t) (lookup-none (bytes_eq digest) es (none_past_head nat_list_eq_equiv digest e es distinct is))) in
    grind (arith, sums, more, none)

-- what is seen alike fits alike
pub fits_same : (kept : List Kept) (t : Tables) (history : List Event) (moment : ℕ) → IsTied t → TellsSame kept (kept_of t) moment → FitsHistory kept history moment →
    FitsHistory (kept_of t) history moment
fits_same kept t history moment tied same fits = record {
  answers = λ d u le. same.finds d u le ∙ fits.answers d u le;
  count = λ u le. same.counts u le ∙ fits.count u le;
  once = λ d. seen_once t.families.entries (stand_entries t.records) d moment tied.ties.once;
  is_history = fits.is_history;
}

-- what is so of all is so of the rest
rest_live : (e : List ℕ × Record) (es : List (List ℕ × Record)) (moment : ℕ) → IsDistinct bytes_eq (keys_of (e ∷ es)) → AllLive (e ∷ es) moment → AllLive es moment
rest_live e es moment once all d t at = all d t past
  where
    past : option_map expiry (cond {A = Option Record} (bytes_eq d e.0) (Some e.1) (lookup (bytes_eq d) es)) ≡ Some t
    past =
        let none : bytes_eq d e.0 ≡ true → lookup (bytes_eq d) es ≡ None = λ is. lookup-none (bytes_eq d) es (none_past_head nat_list_eq_equiv d e es once is) in
        grind (arith, at, none)

pub live_all : (es : List (List ℕ × Record)) (moment : ℕ) → IsDistinct bytes_eq (keys_of es) → AllLive es moment → count_by (is_live_at moment) (values_of es) ≡ length es
live_all [] moment once all = refl
live_all (e ∷ es) moment once all =
    let sums = count_by-cons (is_live_at moment) e.1 (values_of es) in
    let here = (bytes_eq-Decides e.0 e.0).1 refl in
    let first = all e.0 (expiry e.1) in
    let more = live_all es moment (IsDistinct-tail bytes_eq e.0 (keys_of es) once) (rest_live e es moment once all) in
    grind (arith, nat_tests, sums, here, first, more)

-- whether one of a family is unexpired
pub lives_seen : (families : List (ℕ × Shared)) (es : List (List ℕ × Record)) (moment n : ℕ) → list_any (is_member_at n moment) (values_of es) ≡ kept_lives (all_kept families es) moment n
lives_seen families [] moment n = refl
lives_seen families (e ∷ es) moment n = ap (λ b. is_member_at n moment e.1 || b) (lives_seen families es moment n)

-- where none has expired it is so if the family has records
pub lives_peopled : (es : List (List ℕ × Record)) (moment n : ℕ) → IsDistinct bytes_eq (keys_of es) → AllLive es moment → list_any (is_member_at n moment) (values_of es) ≡ nat_lt 0 (member_count es n)
lives_peopled [] moment n once all = refl
lives_peopled (e ∷ es) moment n once all =
    let sums = count_by-cons (λ x. eqb x.family n) e.1 (values_of es) in
    let here = (bytes_eq-Decides e.0 e.0).1 refl in
    let first = all e.0 (expiry e.1) in
    let more = lives_peopled es moment n (IsDistinct-tail bytes_eq e.0 (keys_of es) once) (rest_live e es moment once all) in
    grind (arith, nat_tests, sums, here, first, more)

member_some : (es : List (List ℕ × Record)) (moment n : ℕ) → list_any (is_member_at n moment) (values_of es) ≡ true → 0 < member_count es n
member_some [] moment n any = cc
member_some (e ∷ es) moment n any =
    let sums = count_by-cons (λ x. eqb x.family n) e.1 (values_of es) in
    grind (arith, nat_tests, sums, any, member_some es moment n)

-- a family that lives is there
pub lives_there : (t : Tables) (moment n : ℕ) → IsTied t → kept_lives (kept_of t) moment n ≡ true → is_some (family_numbered t.families.entries n) ≡ true
lives_there t moment n tied lives =
    let some = member_some (stand_entries t.records) moment n (lives_seen t.families.entries (stand_entries t.records) moment n ∙ lives) in
    let same = tied.ties.counted n in
    has_slot t.families.entries n (omega (arith, some, same))

-- where none has expired all that are kept are unexpired
pub all_unexpired : (t : Tables) (moment : ℕ) → IsTied t → AllLive (stand_entries t.records) moment → length (kept_of t) ≡ kept_unexpired (kept_of t) moment
all_unexpired t moment tied all =
    let es = stand_entries t.records in
    length-map es (kept_in t.families.entries) ∙ sym (live_all es moment tied.ties.once all) ∙ sym (count_seen t.families.entries es moment)

-- what is empty fits the history in which nothing happened
pub fits_nothing : (moment : ℕ) → FitsHistory [] [] moment
fits_nothing moment = record {
  answers = λ d t le. refl;
  count = λ t le. refl;
  once = λ d. omega arith;
  is_history = record { past = refl; single = λ d. omega arith; one_code = λ family. omega arith; kin = refl };
}

-- what is seen of what is kept is what the history says
pub seen_kept : (kept : List Kept) (history : List Event) (digest : List ℕ) (m : ℕ) (k : Kept) → FitsHistory kept history m → kept_at kept digest m ≡ Some k →
    Some (kept_seen k) ≡ seen_at history digest m
seen_kept kept history digest m k fits at = let is = fits.answers digest m (omega arith) in grind (arith, is)
