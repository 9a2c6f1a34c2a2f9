-- How many have not expired, by the tally.
use Rattle.std.proofs.Common.{◌≡◌, ◌<◌, ◌≤◌, ◌+◌, ◌==◌, ◌∙◌, ℕ, List, [], ◌∷◌, zero, suc, Bool, true, false, Option, Some, None, length, ap, refl, arith}
use Rattle.std.specs.Prelude.{◌&&◌, count_by, if◌then◌else◌, nat_le, nat_lt}
use Rattle.std.specs.Map.{values_of}
use Rattle.std.proofs.lemmas.Bool.Decides.{nat_tests}
use Rattle.std.proofs.lemmas.List.Sums.{sum_by-cons}
use Rattle.shelf.specs.declared.shelf.Shelf.{Shelf}
use Rattle.shelf.specs.Tallying.{share}
use Rattle.shelf.specs.Shelved.{IsSettled, IsShelved, Named, count_timed, entries_in, entries_of, is_any, is_counted, is_of, lasts, lasts_of, slot_at, weight}
use Rattle.shelf.proofs.Tallying.{count_entries}
use Rattle.shelf.proofs.Timing.{counts_ahead, list_counted, listed_at, timed_at}

module _ {R : Type 0} (until whose : R → ℕ) (shelf : Shelf R) (settled : IsSettled until whose shelf) (moment : ℕ) (noticed : shelf.second ≡ moment + 1) where
  counted_at : (y : ℕ) (s : Named R) → slot_at shelf.slots.items y ≡ Some s → is_counted (settled.stands.timer y) ≡ nat_lt moment (until s.kept)
  counted_at y s at =
      let counted = ap is_counted (listed_at until whose shelf settled y s at) ∙ list_counted shelf.second (until s.kept) in
      grind (arith, nat_tests, counted, noticed)

  pub count_all : shelf.tally.all ≡ count_by (lasts until moment) (values_of (entries_of shelf))
  count_all =
      settled.stands.shelved.tallied.all
      ∙ count_entries is_any (lasts until moment) settled.stands.timer shelf.slots.items (λ y s at. (let is = counted_at y s at in grind (arith, is)))

  pub count_those : (c : ℕ) → share shelf.tally c ≡ count_by (lasts_of until whose c moment) (values_of (entries_of shelf))
  count_those c =
      settled.stands.shelved.tallied.each c
      ∙ count_entries (is_of whose c) (lasts_of until whose c moment) settled.stands.timer shelf.slots.items (λ y s at. (let is = counted_at y s at in grind (arith, is)))

-- AT MOST

-- where what passes counts, no more pass than count
count_most : {R : Type 0} (p q : R → Bool) (timer : ℕ → Option ℕ) (slots : List (Option (Named R))) → ((y : ℕ) (s : Named R) → slot_at slots y ≡ Some s → q s.kept ≡ true → (is_counted (timer y) && p s.kept) ≡ true) →
    count_by q (values_of (entries_in slots)) ≤ count_timed p timer slots
count_most p q timer [] counts = omega arith
count_most p q timer (None ∷ os) counts = let more = count_most p q (λ x. timer (suc x)) os (λ y s at. counts (suc y) s at) in omega (arith, more)
count_most p q timer (Some s ∷ os) counts =
    let more = count_most p q (λ x. timer (suc x)) os (λ y t at. counts (suc y) t at) in
    let one = sum_by-cons (λ r. if q r then 1 else 0) s.kept (values_of (entries_in os)) in
    let here = first (q s.kept) refl in
    omega (arith, more, one, here)
  where
    first : (b : Bool) → q s.kept ≡ b → (if q s.kept then 1 else 0) ≤ weight p (timer zero) (Some s)
    first true passes = let is = counts zero s refl passes in rw (passes, is) (omega arith)
    first false fails = rw fails (omega arith)

module _ {R : Type 0} (until whose : R → ℕ) (shelf : Shelf R) (stands : IsShelved until whose shelf) (moment : ℕ) (ahead : shelf.second ≤ moment + 1) where
  counts_at : (y : ℕ) (s : Named R) → slot_at shelf.slots.items y ≡ Some s → lasts until moment s.kept ≡ true → is_counted (stands.timer y) ≡ true
  counts_at y s at yet =
      let later : moment < until s.kept = grind (arith, nat_tests, yet) in
      counts_ahead until shelf.second (length shelf.slots.items) y s (stands.timer y) (timed_at until whose shelf stands y s at) (omega (arith, later, ahead))

  pub most_all : count_by (lasts until moment) (values_of (entries_of shelf)) ≤ shelf.tally.all
  most_all =
      let all = stands.shelved.tallied.all in
      let most = count_most is_any (lasts until moment) stands.timer shelf.slots.items (λ y s at yet. (let is = counts_at y s at yet in grind (arith, is))) in
      omega (arith, all, most)

  pub most_those : (c : ℕ) → count_by (lasts_of until whose c moment) (values_of (entries_of shelf)) ≤ share shelf.tally c
  most_those c =
      let each = stands.shelved.tallied.each c in
      let most = count_most (is_of whose c) (lasts_of until whose c moment) stands.timer shelf.slots.items (λ y s at both. those y s at both) in
      omega (arith, each, most)
    where
      those : (y : ℕ) (s : Named R) → slot_at shelf.slots.items y ≡ Some s → lasts_of until whose c moment s.kept ≡ true → (is_counted (stands.timer y) && is_of whose c s.kept) ≡ true
      those y s at both =
          let yet : lasts until moment s.kept ≡ true = grind (arith, both) in
          let is = counts_at y s at yet in
          grind (arith, is, both)
