-- How many count, as slots and their lists change.
use Rattle.std.proofs.Common.{◌≡◌, ◌≢◌, ◌<◌, ◌≤◌, ◌+◌, ◌==◌, ℕ, zero, suc, List, [], ◌∷◌, Option, Some, None, Bool, true, false, length, refl, ap, ◌∙◌, sym, arith}
use Rattle.std.specs.Prelude.{◌&&◌, count_by, if◌then◌else◌}
use Rattle.std.specs.Map.{values_of}
use Rattle.std.proofs.lemmas.List.Sums.{sum_by-cons}
use Rattle.shelf.specs.Shelved.{Named}
use Rattle.shelf.specs.declared.tally.Tally.{Tally}
use Rattle.shelf.specs.Tallying.{share, Enters, IsSameTally, Leaves}
use Rattle.shelf.specs.Shelved.{Tallied, count_timed, entries_in, is_any, is_counted, is_of, slot_at, weight}

-- SUMS

-- where each slot weighs the same, as many count
pub count_same : {R : Type 0} (p p' : R → Bool) (timer timer' : ℕ → Option ℕ) (slots slots' : List (Option (Named R))) → length slots' ≡ length slots →
    ((y : ℕ) → weight p' (timer' y) (slot_at slots' y) ≡ weight p (timer y) (slot_at slots y)) → count_timed p' timer' slots' ≡ count_timed p timer slots
count_same p p' timer timer' [] [] long same = refl
count_same p p' timer timer' [] (o ∷ os) long same = absurd (omega (arith, long))
count_same p p' timer timer' (o ∷ os) [] long same = absurd (omega (arith, long))
count_same p p' timer timer' (o ∷ os) (o' ∷ os') long same =
    let more = count_same p p' (λ x. timer (suc x)) (λ x. timer' (suc x)) os os' (omega (arith, long)) (λ y. same (suc y)) in
    let here = same zero in
    omega (arith, more, here)

-- where another slot alone weighs otherwise, so do all by as much
pub count_moved : {R : Type 0} (p : R → Bool) (timer timer' : ℕ → Option ℕ) (slots slots' : List (Option (Named R))) (x : ℕ) → length slots' ≡ length slots → x < length slots →
    ((y : ℕ) → y ≢ x → weight p (timer' y) (slot_at slots' y) ≡ weight p (timer y) (slot_at slots y)) →
    count_timed p timer' slots' + weight p (timer x) (slot_at slots x) ≡ count_timed p timer slots + weight p (timer' x) (slot_at slots' x)
count_moved p timer timer' [] os' x long inside same = absurd (omega (arith, inside))
count_moved p timer timer' (o ∷ os) [] x long inside same = absurd (omega (arith, long))
count_moved p timer timer' (o ∷ os) (o' ∷ os') zero long inside same =
    let rest = count_same p p (λ x. timer (suc x)) (λ x. timer' (suc x)) os os' (omega (arith, long)) (λ y. same (suc y) (λ is. cc)) in
    omega (arith, rest)
count_moved p timer timer' (o ∷ os) (o' ∷ os') (suc x) long inside same =
    let more = count_moved p (λ y. timer (suc y)) (λ y. timer' (suc y)) os os' x (omega (arith, long)) (omega (arith, inside)) (λ y ne. same (suc y) (λ is. ne (omega (arith, is)))) in
    let here = same zero (λ is. cc) in
    omega (arith, more, here)

weight_few : {R : Type 0} (p : R → Bool) (place : Option ℕ) (o : Option (Named R)) → weight p place o ≤ 1
weight_few p place None = omega arith
weight_few p place (Some s) = by (is_counted place && p s.kept)
  where
    by : (b : Bool) → (if b then 1 else 0) ≤ 1
    by true = omega arith
    by false = omega arith

-- no more than there are slots
pub count_few : {R : Type 0} (p : R → Bool) (timer : ℕ → Option ℕ) (slots : List (Option (Named R))) → count_timed p timer slots ≤ length slots
count_few p timer [] = omega arith
count_few p timer (o ∷ os) = let more = count_few p (λ x. timer (suc x)) os in let here = weight_few p (timer zero) o in omega (arith, more, here)

-- where none count, none weighs
pub none_weighs : {R : Type 0} (p : R → Bool) (timer : ℕ → Option ℕ) (slots : List (Option (Named R))) → count_timed p timer slots ≡ 0 → (x : ℕ) → weight p (timer x) (slot_at slots x) ≡ 0
none_weighs p timer [] none x = refl
none_weighs p timer (o ∷ os) none zero = omega (arith, none)
none_weighs p timer (o ∷ os) none (suc x) = none_weighs p (λ y. timer (suc y)) os (omega (arith, none)) x

-- TALLIES

-- each slot weighs what it did
pub tally_kept : {R : Type 0} (whose : R → ℕ) (slots slots' : List (Option (Named R))) (timer timer' : ℕ → Option ℕ) (tally tally' : Tally) → length slots' ≡ length slots → IsSameTally tally tally' →
    ((q : ℕ → Bool) (y : ℕ) → weight (λ r. q (whose r)) (timer' y) (slot_at slots' y) ≡ weight (λ r. q (whose r)) (timer y) (slot_at slots y)) →
    Tallied whose slots timer tally → Tallied whose slots' timer' tally'
tally_kept whose slots slots' timer timer' tally tally' long still same tallied = record {
  all = still.all ∙ tallied.all ∙ sym (count_same is_any is_any timer timer' slots slots' long (λ y. same (λ n. true) y));
  each = λ c. still.each c ∙ tallied.each c ∙ sym (count_same (is_of whose c) (is_of whose c) timer timer' slots slots' long (λ y. same (λ n. n == c) y));
}

module _ {R : Type 0} (whose : R → ℕ) (slots slots' : List (Option (Named R))) (timer timer' : ℕ → Option ℕ) (x : ℕ) (long : length slots' ≡ length slots) (inside : x < length slots)
    (others : (y : ℕ) → y ≢ x → (timer' y ≡ timer y) × (slot_at slots' y ≡ slot_at slots y)) where
  weighs : (p : R → Bool) (y : ℕ) → y ≢ x → weight p (timer' y) (slot_at slots' y) ≡ weight p (timer y) (slot_at slots y)
  weighs p y ne = let same = others y ne in ap (λ t. weight p t (slot_at slots' y)) same.0 ∙ ap (λ o. weight p (timer y) o) same.1

  moved_by : (p : R → Bool) → count_timed p timer' slots' + weight p (timer x) (slot_at slots x) ≡ count_timed p timer slots + weight p (timer' x) (slot_at slots' x)
  moved_by p = count_moved p timer timer' slots slots' x long inside (weighs p)

  -- what counted there counts no more
  pub tally_out : (tally tally' : Tally) (s : Named R) → slot_at slots x ≡ Some s → is_counted (timer x) ≡ true → ((p : R → Bool) → weight p (timer' x) (slot_at slots' x) ≡ 0) → Leaves tally tally' (whose s.kept) →
      Tallied whose slots timer tally → Tallied whose slots' timer' tally'
  tally_out tally tally' s at counted none leaves tallied = record {
    all = (let a = leaves.all in let b = tallied.all in let is = moved_by is_any in let was = own is_any in let now = none is_any in omega (arith, a, b, is, was, now));
    each = λ c. (let a = leaves.each c in let b = tallied.each c in let is = moved_by (is_of whose c) in let was = own (is_of whose c) in let now = none (is_of whose c) in omega (arith, a, b, is, was, now));
  }
    where
      own : (p : R → Bool) → weight p (timer x) (slot_at slots x) ≡ (if p s.kept then 1 else 0)
      own p = rw (at, counted) refl

  -- what did not count there does
  pub tally_in : (tally tally' : Tally) (s : Named R) → slot_at slots' x ≡ Some s → is_counted (timer' x) ≡ true → ((p : R → Bool) → weight p (timer x) (slot_at slots x) ≡ 0) → Enters tally tally' (whose s.kept) →
      Tallied whose slots timer tally → Tallied whose slots' timer' tally'
  tally_in tally tally' s at counted none enters tallied = record {
    all = (let a = enters.all in let b = tallied.all in let is = moved_by is_any in let now = own is_any in let was = none is_any in omega (arith, a, b, is, was, now));
    each = λ c. (let a = enters.each c in let b = tallied.each c in let is = moved_by (is_of whose c) in let now = own (is_of whose c) in let was = none (is_of whose c) in omega (arith, a, b, is, was, now));
  }
    where
      own : (p : R → Bool) → weight p (timer' x) (slot_at slots' x) ≡ (if p s.kept then 1 else 0)
      own p = rw (at, counted) refl

  -- neither did, nor does
  pub tally_apart : (tally tally' : Tally) → ((p : R → Bool) → weight p (timer' x) (slot_at slots' x) ≡ weight p (timer x) (slot_at slots x)) → IsSameTally tally tally' →
      Tallied whose slots timer tally → Tallied whose slots' timer' tally'
  tally_apart tally tally' same still tallied = record {
    all = (let a = still.all in let b = tallied.all in let is = moved_by is_any in let both = same is_any in omega (arith, a, b, is, both));
    each = λ c. (let a = still.each c in let b = tallied.each c in let is = moved_by (is_of whose c) in let both = same (is_of whose c) in omega (arith, a, b, is, both));
  }

-- ENTRIES

-- how many such there are in the slots, where the lists tell which of them count
pub count_entries : {R : Type 0} (p q : R → Bool) (timer : ℕ → Option ℕ) (slots : List (Option (Named R))) →
    ((y : ℕ) (s : Named R) → slot_at slots y ≡ Some s → (is_counted (timer y) && p s.kept) ≡ q s.kept) → count_timed p timer slots ≡ count_by q (values_of (entries_in slots))
count_entries p q timer [] same = refl
count_entries p q timer (None ∷ os) same = let more = count_entries p q (λ x. timer (suc x)) os (λ y s at. same (suc y) s at) in omega (arith, more)
count_entries p q timer (Some s ∷ os) same =
    let more = count_entries p q (λ x. timer (suc x)) os (λ y t at. same (suc y) t at) in
    let one = sum_by-cons (λ r. if q r then 1 else 0) s.kept (values_of (entries_in os)) in
    let here = same zero s refl in
    grind (arith, more, one, here)
