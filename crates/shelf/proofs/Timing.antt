-- The lists by time as slots are looked at.
use Rattle.std.proofs.Common.{◌≡◌, ◌≢◌, ◌⊎◌, inl, inr, ◌<◌, ◌≤◌, ◌+◌, ◌==◌, ◌%◌, ◌∙◌, ℕ, zero, suc, List, [], ◌∷◌, Option, Some, None, Bool, true, false, length, refl, ap, sym, subst, arith}
use Rattle.std.specs.Prelude.{◌&&◌, if◌then◌else◌, is_some, nat_le, nat_lt}
use Rattle.std.specs.Map.{lookup}
use Rattle.std.specs.Str.{bytes_eq}
use Rattle.std.proofs.lemmas.Bool.Decides.{nat_tests}
use Rattle.std.proofs.lemmas.Nat.{mod_below}
use Rattle.chains.specs.Chained.{Chained, IsShaped, all_moved, moved, place_moved}
use Rattle.chains.specs.ChainedLaws.{none_left, same_place}
use Rattle.shelf.specs.declared.shelf.Shelf.{Shelf}
use Rattle.shelf.specs.Shelved.{Named}
use Rattle.shelf.specs.declared.tally.Tally.{Tally}
use Rattle.shelf.specs.Tallying.{IsSameTally, LeavesIf}
use Rattle.shelf.specs.Looking.{IsDueIn}
use Rattle.shelf.specs.Shelved.{AllLast, IsCountedAs, IsSettled, IsShelved, IsTimed, ShelvedBy, Tallied, due, due_left, entries_in, entries_of, free, is_any, is_counted, list_for, pending, seconds, slot_at, weight}
use Rattle.shelf.proofs.Tallying.{none_weighs, tally_apart, tally_kept, tally_out}

-- what is in a slot is in one of them
pub slot_inside : {R : Type 0} (slots : List (Option (Named R))) (x : ℕ) (s : Named R) → slot_at slots x ≡ Some s → x < length slots
slot_inside [] x s at = cc
slot_inside (t ∷ ss) zero s at = omega arith
slot_inside (t ∷ ss) (suc x) s at = let more = slot_inside ss x s at in omega (arith, more)

-- WHICH LIST

-- of what was of a second that is over, and of what is of one that is not
over : (second u : ℕ) → nat_lt u second ≡ true → list_for second u ≡ due
over second u is = rw is refl

ahead : (second u : ℕ) → nat_lt u second ≡ false → list_for second u ≡ u % seconds
ahead second u is = rw is refl

below : (u : ℕ) → u % seconds < seconds
below u = mod_below u seconds (omega arith)

pub list_low : (second u : ℕ) → list_for second u < free
list_low second u = by (nat_lt u second) refl
  where
    by : (b : Bool) → nat_lt u second ≡ b → list_for second u < free
    by true is = rw (over second u is) (omega arith)
    by false is = let low = below u in rw (ahead second u is) (omega (arith, low))

pub list_sorted : (second u : ℕ) → list_for second u ≢ pending
list_sorted second u = by (nat_lt u second) refl
  where
    by : (b : Bool) → nat_lt u second ≡ b → list_for second u ≢ pending
    by true is same = let list = over second u is in absurd (omega (arith, list, same))
    by false is same = let list = ahead second u is in let low = below u in absurd (omega (arith, list, low, same))

-- it is that of what is due where the second is over
pub list_due : (second u : ℕ) → list_for second u ≡ due → u < second
list_due second u same = by (nat_lt u second) refl
  where
    by : (b : Bool) → nat_lt u second ≡ b → u < second
    by true is = grind (arith, nat_tests, is)
    by false is = let list = ahead second u is in let low = below u in absurd (omega (arith, list, low, same))

pub list_counted : (second u : ℕ) → is_counted (Some (list_for second u)) ≡ nat_le second u
list_counted second u = by (nat_lt u second) refl
  where
    by : (b : Bool) → nat_lt u second ≡ b → is_counted (Some (list_for second u)) ≡ nat_le second u
    by true is = let not_yet : nat_le second u ≡ false = grind (arith, nat_tests, is) in rw (is, not_yet) refl
    by false is =
        let yet : nat_le second u ≡ true = grind (arith, nat_tests, is) in
        let low = below u in
        let apart : ((u % seconds) == due) ≡ false = grind (arith, nat_tests, low) in
        rw (is, yet, apart) refl

-- what is in a list has a slot
pub placed_inside : {R : Type 0} (until : R → ℕ) (second : ℕ) (slots : List (Option (Named R))) (x list : ℕ) (place : Option ℕ) → IsTimed until second (length slots) x (slot_at slots x) place → place ≡ Some list → x < length slots
placed_inside {R} until second slots x list place timed at = by (slot_at slots x) refl timed
  where
    by : (o : Option (Named R)) → slot_at slots x ≡ o → IsTimed until second (length slots) x o place → x < length slots
    by None is timed = let outside = timed.1 in grind (arith, nat_tests, outside, at)
    by (Some s) is timed = slot_inside slots x s is

-- in a free slot is nothing
pub free_empty : {R : Type 0} (until : R → ℕ) (second : ℕ) (slots : List (Option (Named R))) (x : ℕ) (place : Option ℕ) → IsTimed until second (length slots) x (slot_at slots x) place → place ≡ Some free → slot_at slots x ≡ None
free_empty {R} until second slots x place timed at = by (slot_at slots x) refl timed
  where
    by : (o : Option (Named R)) → slot_at slots x ≡ o → IsTimed until second (length slots) x o place → slot_at slots x ≡ None
    by None is timed = is
    by (Some s) is (inl there) = absurd (grind (arith, there, at))
    by (Some s) is (inr there) = absurd (let low = list_low second (until s.kept) in grind (arith, there, at, low))

-- what is not pending is in the list of when it expires
pub listed : {R : Type 0} (until : R → ℕ) (second count x : ℕ) (s : Named R) (place : Option ℕ) → place ≢ Some pending → IsTimed until second count x (Some s) place → place ≡ Some (list_for second (until s.kept))
listed until second count x s place sorted (inl there) = absurd (sorted there)
listed until second count x s place sorted (inr there) = there

pub timed_at : {R : Type 0} (until whose : R → ℕ) (shelf : Shelf R) (stands : IsShelved until whose shelf) (x : ℕ) (s : Named R) → slot_at shelf.slots.items x ≡ Some s →
    IsTimed until shelf.second (length shelf.slots.items) x (Some s) (stands.timer x)
timed_at until whose shelf stands x s at = subst (λ o. IsTimed until shelf.second (length shelf.slots.items) x o (stands.timer x)) at (stands.shelved.times x (λ is. cc))

-- nothing is pending in what is settled
pub sorted_at : {R : Type 0} (until whose : R → ℕ) (shelf : Shelf R) (settled : IsSettled until whose shelf) (x : ℕ) → settled.stands.timer x ≢ Some pending
sorted_at until whose shelf settled x =
    let shelved = settled.stands.shelved in
    let all = shelved.all in
    none_left shelved.timed pending (omega (arith, all)) settled.none x

pub listed_at : {R : Type 0} (until whose : R → ℕ) (shelf : Shelf R) (settled : IsSettled until whose shelf) (x : ℕ) (s : Named R) → slot_at shelf.slots.items x ≡ Some s → settled.stands.timer x ≡ Some (list_for shelf.second (until s.kept))
listed_at until whose shelf settled x s at =
    listed until shelf.second (length shelf.slots.items) x s (settled.stands.timer x) (sorted_at until whose shelf settled x) (timed_at until whose shelf settled.stands x s at)

-- what is pending counts, and what is not counts until its second is over
pub counts_ahead : {R : Type 0} (until : R → ℕ) (second count x : ℕ) (s : Named R) (place : Option ℕ) → IsTimed until second count x (Some s) place → second ≤ until s.kept → is_counted place ≡ true
counts_ahead until second count x s place (inl there) ahead_of = rw there refl
counts_ahead until second count x s place (inr there) ahead_of = ap is_counted there ∙ list_counted second (until s.kept) ∙ grind (arith, nat_tests, ahead_of)

-- so what does not count is of a second that is over
pub over_uncounted : {R : Type 0} (until : R → ℕ) (second count x : ℕ) (s : Named R) (place : Option ℕ) → IsTimed until second count x (Some s) place → is_counted place ≡ false → until s.kept < second
over_uncounted until second count x s place (inl there) never = absurd (let counts : is_counted place ≡ true = rw there refl in let both : true ≡ false = sym counts ∙ never in cc)
over_uncounted until second count x s place (inr there) never =
    let is : nat_le second (until s.kept) ≡ false = sym (list_counted second (until s.kept)) ∙ sym (ap is_counted there) ∙ never in
    grind (arith, nat_tests, is)

-- INTO ANOTHER LIST

pub relisted : {R : Type 0} (until whose : R → ℕ) (old new : Shelf R) (timer : ℕ → Option ℕ) (x to : ℕ) (shelved : ShelvedBy until whose old timer None) → new.slots ≡ old.slots → new.names ≡ old.names → new.used ≡ old.used → new.second ≡ old.second →
    new.wheel.heads ≡ old.wheel.heads → length new.wheel.cells.items ≡ length old.wheel.cells.items → Chained new.wheel (moved (moved timer x None) x (Some to)) → IsTimed until old.second (length old.slots.items) x (slot_at old.slots.items x) (Some to) →
    Tallied whose old.slots.items (moved timer x (Some to)) new.tally → ShelvedBy until whose new (moved timer x (Some to)) None
relisted until whose old new timer x to shelved slots names used second heads cells put timed tallied = rw (slots, names, used, second) (record {
  named = shelved.named;
  timed = same_place (moved (moved timer x None) x (Some to)) (moved timer x (Some to)) (λ y. once_moved y (x == y) refl) put;
  times = λ y ne. by y (x == y) refl;
  loosed = λ y is. cc;
  tallied = tallied;
  once = shelved.once;
  used_is = shelved.used_is;
  some = shelved.some;
  all = heads ∙ shelved.all;
  name_cells = shelved.name_cells;
  time_cells = cells ∙ shelved.time_cells ∙ ap (λ n. n + length old.slots.items) (sym heads);
})
  where
    once_moved : (y : ℕ) (b : Bool) → (x == y) ≡ b → moved timer x (Some to) y ≡ moved (moved timer x None) x (Some to) y
    once_moved y true same = rw same refl
    once_moved y false other = rw other refl

    by : (y : ℕ) → (b : Bool) → (x == y) ≡ b → IsTimed until old.second (length old.slots.items) y (slot_at old.slots.items y) (moved timer x (Some to) y)
    by y true same = let at : x ≡ y = grind (arith, nat_tests, same) in rw same (subst (λ z. IsTimed until old.second (length old.slots.items) z (slot_at old.slots.items z) (Some to)) at timed)
    by y false other = rw other (shelved.times y (λ is. cc))

-- another number's place stays
pub stays : (timer : ℕ → Option ℕ) (x to y : ℕ) → y ≢ x → moved timer x (Some to) y ≡ timer y
stays timer x to y ne = let apart : (x == y) ≡ false = grind (arith, nat_tests, ne) in rw apart refl

pub moves : (timer : ℕ → Option ℕ) (x to : ℕ) → moved timer x (Some to) x ≡ Some to
moves timer x to = let same : (x == x) ≡ true = grind (arith, nat_tests) in rw same refl

pub moves_out : (timer : ℕ → Option ℕ) (x : ℕ) → moved timer x None x ≡ None
moves_out timer x = let same : (x == x) ≡ true = grind (arith, nat_tests) in rw same refl

-- what tells which count, where the slot is empty or both lists count alike
pub relist_apart : {R : Type 0} (whose : R → ℕ) (slots : List (Option (Named R))) (timer : ℕ → Option ℕ) (x to : ℕ) (tally : Tally) → x < length slots →
    (slot_at slots x ≡ None) ⊎ (is_counted (Some to) ≡ is_counted (timer x)) → Tallied whose slots timer tally → Tallied whose slots (moved timer x (Some to)) tally
relist_apart {R} whose slots timer x to tally inside alike tallied =
    tally_apart whose slots slots timer (moved timer x (Some to)) x refl inside (λ y ne. (stays timer x to y ne, refl)) tally tally (λ p. same p alike) (record { all = refl; each = λ c. refl }) tallied
  where
    same : (p : R → Bool) → (slot_at slots x ≡ None) ⊎ (is_counted (Some to) ≡ is_counted (timer x)) → weight p (moved timer x (Some to) x) (slot_at slots x) ≡ weight p (timer x) (slot_at slots x)
    same p (inl empty) = rw empty refl
    same p (inr counts) = by (slot_at slots x)
      where
        by : (o : Option (Named R)) → weight p (moved timer x (Some to) x) o ≡ weight p (timer x) o
        by None = refl
        by (Some s) = rw (moves timer x to, counts) refl

-- what is sorted counts on unless it is due
pub relist_sorted : {R : Type 0} (until whose : R → ℕ) (slots : List (Option (Named R))) (timer : ℕ → Option ℕ) (x second : ℕ) (tally tally' : Tally) (s : Named R) → slot_at slots x ≡ Some s → timer x ≡ Some pending →
    (b : Bool) → nat_lt (until s.kept) second ≡ b → LeavesIf b tally tally' (whose s.kept) → Tallied whose slots timer tally → Tallied whose slots (moved timer x (Some (list_for second (until s.kept)))) tally'
relist_sorted until whose slots timer x second tally tally' s at was true is leaves tallied =
    tally_out whose slots slots timer (moved timer x (Some (list_for second (until s.kept)))) x refl (slot_inside slots x s at) (λ y ne. (stays timer x (list_for second (until s.kept)) y ne, refl)) tally tally' s at (rw was refl)
    (λ p. rw (moves timer x (list_for second (until s.kept)), at, is) refl) leaves tallied
relist_sorted until whose slots timer x second tally tally' s at was false is still tallied =
    let low = below (until s.kept) in
    let apart : ((until s.kept % seconds) == due) ≡ false = grind (arith, nat_tests, low) in
    tally_apart whose slots slots timer (moved timer x (Some (list_for second (until s.kept)))) x refl (slot_inside slots x s at) (λ y ne. (stays timer x (list_for second (until s.kept)) y ne, refl)) tally tally'
    (λ p. rw (moves timer x (list_for second (until s.kept)), was, at, is, apart) refl) still tallied

-- A SECOND HAS COME

pub turned : {R : Type 0} (until whose : R → ℕ) (old new : Shelf R) (list : ℕ) (settled : IsSettled until whose old) → list ≡ old.second % seconds → list < seconds → new.slots ≡ old.slots → new.names ≡ old.names → new.tally ≡ old.tally →
    new.used ≡ old.used → new.second ≡ old.second + 1 → IsShaped old.wheel new.wheel → Chained new.wheel (all_moved settled.stands.timer list pending) → IsShelved until whose new
turned {R} until whose old new list settled is low slots names tally used second shape out = record {
  timer = all_moved settled.stands.timer list pending;
  shelved = rw (slots, names, tally, used, second) (record {
    named = shelved.named;
    timed = out;
    times = λ x ne. by (slot_at old.slots.items x) x refl (shelved.times x (λ e. cc));
    loosed = λ x e. cc;
    tallied = tally_kept whose old.slots.items old.slots.items timer (all_moved timer list pending) old.tally old.tally refl (record { all = refl; each = λ c. refl })
        (λ q y. weighs_same q y (timer y) (slot_at old.slots.items y)) shelved.tallied;
    once = shelved.once;
    used_is = shelved.used_is;
    some = shelved.some;
    all = shape.heads ∙ shelved.all;
    name_cells = shelved.name_cells;
    time_cells = shape.cells ∙ shelved.time_cells ∙ ap (λ n. n + length old.slots.items) (sym shape.heads);
  });
}
  where
    timer : ℕ → Option ℕ
    timer = settled.stands.timer

    shelved : ShelvedBy until whose old timer None
    shelved = settled.stands.shelved

    counts_same : (o : Option ℕ) → is_counted (place_moved list pending o) ≡ is_counted o
    counts_same None = refl
    counts_same (Some l) = by (l == list) refl
      where
        by : (b : Bool) → (l == list) ≡ b → is_counted (place_moved list pending (Some l)) ≡ is_counted (Some l)
        by true same = let apart : (l == due) ≡ false = grind (arith, nat_tests, same, low) in rw (same, apart) refl
        by false other = rw other refl

    weighs_same : (q : ℕ → Bool) (y : ℕ) (place : Option ℕ) (o : Option (Named R)) → weight (λ r. q (whose r)) (place_moved list pending place) o ≡ weight (λ r. q (whose r)) place o
    weighs_same q y place None = refl
    weighs_same q y place (Some s) = rw (counts_same place) refl

    some_stays : (o : Option ℕ) → is_some o ≡ true → is_some (place_moved list pending o) ≡ true
    some_stays None none = cc
    some_stays (Some l) some = by (l == list) refl
      where
        by : (b : Bool) → (l == list) ≡ b → is_some (place_moved list pending (Some l)) ≡ true
        by true same = rw same refl
        by false other = rw other refl

    sorted_on : (u : ℕ) (o : Option ℕ) → o ≡ Some (list_for old.second u) → (b : Bool) → nat_lt u old.second ≡ b → (c : Bool) → ((u % seconds) == list) ≡ c →
        (place_moved list pending o ≡ Some pending) ⊎ (place_moved list pending o ≡ Some (list_for (old.second + 1) u))
    sorted_on u o at true gone c same =
        let apart : (due == list) ≡ false = grind (arith, nat_tests, low) in
        let later : nat_lt u (old.second + 1) ≡ true = grind (arith, nat_tests, gone) in
        inr (rw (at, gone, apart, later) refl)
    sorted_on u o at false yet true same = inl (rw (at, yet, same) refl)
    sorted_on u o at false yet false other =
        let ne : u ≢ old.second = λ e. absurd (let rest = ap (λ n. n % seconds) e in grind (arith, nat_tests, rest, other, is)) in
        let later : nat_lt u (old.second + 1) ≡ false = grind (arith, nat_tests, yet, ne) in
        inr (rw (at, yet, other, later) refl)

    by : (o : Option (Named R)) (x : ℕ) → slot_at old.slots.items x ≡ o → IsTimed until old.second (length old.slots.items) x o (timer x) →
        IsTimed until (old.second + 1) (length old.slots.items) x o (all_moved timer list pending x)
    by None x at timed = (λ inside. some_stays (timer x) (timed.0 inside), λ outside. rw (timed.1 outside) refl)
    by (Some s) x at timed = sorted_on (until s.kept) (timer x) (listed until old.second (length old.slots.items) x s (timer x) (sorted_at until whose old settled x) timed) (nat_lt (until s.kept) old.second) refl ((until s.kept % seconds) == list) refl

-- ALL IS DUE

pub skipped : {R : Type 0} (until whose : R → ℕ) (old new : Shelf R) (stands : IsShelved until whose old) → old.tally.all ≡ 0 → old.second ≤ new.second → new.slots ≡ old.slots → new.names ≡ old.names → new.wheel ≡ old.wheel → new.tally ≡ old.tally →
    new.used ≡ old.used → IsShelved until whose new
skipped {R} until whose old new stands none later slots names wheel tally used = record {
  timer = stands.timer;
  shelved = rw (slots, names, wheel, tally, used) (record {
    named = shelved.named;
    timed = shelved.timed;
    times = λ x ne. by x (slot_at old.slots.items x) refl (shelved.times x ne);
    loosed = shelved.loosed;
    tallied = shelved.tallied;
    once = shelved.once;
    used_is = shelved.used_is;
    some = shelved.some;
    all = shelved.all;
    name_cells = shelved.name_cells;
    time_cells = shelved.time_cells;
  });
}
  where
    shelved : ShelvedBy until whose old stands.timer None
    shelved = stands.shelved

    uncounted : (x : ℕ) (s : Named R) → slot_at old.slots.items x ≡ Some s → is_counted (stands.timer x) ≡ false
    uncounted x s at = let weighs = none_weighs is_any stands.timer old.slots.items (sym shelved.tallied.all ∙ none) x in grind (arith, weighs, at)

    by : (x : ℕ) (o : Option (Named R)) → slot_at old.slots.items x ≡ o → IsTimed until old.second (length old.slots.items) x o (stands.timer x) → IsTimed until new.second (length old.slots.items) x o (stands.timer x)
    by x None at timed = timed
    by x (Some s) at (inl there) = inl there
    by x (Some s) at (inr there) =
        let before = over_uncounted until old.second (length old.slots.items) x s (stands.timer x) (inr there) (uncounted x s at) in
        let was : nat_lt (until s.kept) old.second ≡ true = grind (arith, nat_tests, before) in
        let is : nat_lt (until s.kept) new.second ≡ true = grind (arith, nat_tests, before, later) in
        inr (there ∙ ap (λ n. Some n) (over old.second (until s.kept) was ∙ sym (over new.second (until s.kept) is)))

-- WHAT LASTS

-- what is so of what is in each slot is so of the entries
pub in_entries : {R : Type 0} (until : R → ℕ) (moment : ℕ) (slots : List (Option (Named R))) → ((x : ℕ) (s : Named R) → slot_at slots x ≡ Some s → moment < until s.kept) → AllLast until (entries_in slots) moment
in_entries until moment [] each d r at = cc
in_entries until moment (None ∷ ss) each d r at = in_entries until moment ss (λ x s is. each (suc x) s is) d r at
in_entries until moment (Some t ∷ ss) each d r at = by (bytes_eq d t.key) refl (in_entries until moment ss (λ x s is. each (suc x) s is) d r)
  where
    by : (b : Bool) → bytes_eq d t.key ≡ b → (lookup (bytes_eq d) (entries_in ss) ≡ Some r → moment < until r) → moment < until r
    by true same more = let here = each zero t refl in let is : t.kept ≡ r = grind (arith, at, same) in subst (λ k. moment < until k) is here
    by false other more = more (grind (arith, at, other))

-- nothing that is kept has expired where nothing is due or pending, and the second is later
pub all_last : {R : Type 0} (until whose : R → ℕ) (shelf : Shelf R) (moment : ℕ) (settled : IsSettled until whose shelf) → due_left shelf ≡ 0 → moment < shelf.second → AllLast until (entries_of shelf) moment
all_last {R} until whose shelf moment settled none later = in_entries until moment shelf.slots.items slot_lasts
  where
    slot_lasts : (x : ℕ) (s : Named R) → slot_at shelf.slots.items x ≡ Some s → moment < until s.kept
    slot_lasts x s at = by (nat_lt (until s.kept) shelf.second) refl
      where
        shelved : ShelvedBy until whose shelf settled.stands.timer None
        shelved = settled.stands.shelved

        by : (b : Bool) → nat_lt (until s.kept) shelf.second ≡ b → moment < until s.kept
        by true gone =
            let all = shelved.all in
            absurd (none_left shelved.timed due (omega (arith, all)) none x (listed_at until whose shelf settled x s at ∙ ap (λ n. Some n) (over shelf.second (until s.kept) gone)))
        by false yet = grind (arith, nat_tests, yet, later)

-- WHAT IS DUE

pub due_over : {R : Type 0} (until whose : R → ℕ) (shelf : Shelf R) (x : ℕ) (s : Named R) → IsDueIn until whose shelf x → slot_at shelf.slots.items x ≡ Some s → until s.kept < shelf.second
due_over until whose shelf x s is at = over_uncounted until shelf.second (length shelf.slots.items) x s (is.stands.timer x) (timed_at until whose shelf is.stands x s at) (rw is.there refl)

pub due_uncounted : {R : Type 0} (until whose : R → ℕ) (shelf : Shelf R) (x : ℕ) → IsDueIn until whose shelf x → IsCountedAs until whose shelf x false
due_uncounted until whose shelf x is = record { stands = is.stands; is = rw is.there refl }

-- what is of a second that is over does not count where nothing is pending
pub over_counts : {R : Type 0} (until whose : R → ℕ) (shelf : Shelf R) (x : ℕ) (s : Named R) → IsSettled until whose shelf → slot_at shelf.slots.items x ≡ Some s → until s.kept < shelf.second → IsCountedAs until whose shelf x false
over_counts until whose shelf x s settled at before = record {
  stands = settled.stands;
  is = ap is_counted (listed_at until whose shelf settled x s at) ∙ list_counted shelf.second (until s.kept) ∙ grind (arith, nat_tests, before);
}
