-- A slot is taken out of a list by time, and put into another.
use Rattle.std.proofs.Common.{◌≡◌, ◌≢◌, ◌⊎◌, inl, inr, ◌<◌, ◌≤◌, ◌+◌, ◌==◌, ◌∙◌, ℕ, List, Option, Some, None, Bool, true, false, length, refl, ap, sym, subst, arith}
use Rattle.std.specs.Prelude.{nat_lt}
use Rattle.std.proofs.lemmas.Bool.Decides.{nat_tests}
use Rattle.chains.specs.Chained.{Chained, all_moved, left, moved, place_moved}
use Rattle.chains.specs.ChainedLaws.{fewer_left}
use Rattle.shelf.specs.declared.shelf.Shelf.{Shelf}
use Rattle.shelf.specs.Shelved.{Named}
use Rattle.shelf.specs.Tallying.{LeavesIf}
use Rattle.shelf.specs.Shelved.{IsTimed, ShelvedBy, is_counted, list_for, pending, slot_at}
use Rattle.shelf.proofs.Timing.{moves, placed_inside, relist_apart, relist_sorted, relisted}

module _ {R : Type 0} (until whose : R → ℕ) (old new : Shelf R) (timer : ℕ → Option ℕ) (shelved : ShelvedBy until whose old timer None) (x from to : ℕ) (at : timer x ≡ Some from)
    (slots : new.slots ≡ old.slots) (names : new.names ≡ old.names) (used : new.used ≡ old.used) (second : new.second ≡ old.second) (heads : new.wheel.heads ≡ old.wheel.heads)
    (cells : length new.wheel.cells.items ≡ length old.wheel.cells.items) (put : Chained new.wheel (moved (moved timer x None) x (Some to))) where
  pub has_slot : x < length old.slots.items
  has_slot = placed_inside until old.second old.slots.items x from (timer x) (shelved.times x (λ is. cc)) at

  -- in which nothing is
  pub put_empty : slot_at old.slots.items x ≡ None → new.tally ≡ old.tally → ShelvedBy until whose new (moved timer x (Some to)) None
  put_empty empty tally =
      let inside = has_slot in
      relisted until whose old new timer x to shelved slots names used second heads cells put (rw empty (λ below. refl, λ past. absurd (omega (arith, past, inside))))
      (rw tally (relist_apart whose old.slots.items timer x to old.tally inside (inl empty) shelved.tallied))

  -- in which something is that belongs there, and counts as it did
  pub put_back : (s : Named R) → slot_at old.slots.items x ≡ Some s → to ≡ list_for old.second (until s.kept) → is_counted (Some to) ≡ is_counted (timer x) → new.tally ≡ old.tally → ShelvedBy until whose new (moved timer x (Some to)) None
  put_back s there is counts tally =
      relisted until whose old new timer x to shelved slots names used second heads cells put (rw there (inr (ap (λ n. Some n) is)))
      (rw tally (relist_apart whose old.slots.items timer x to old.tally has_slot (inr counts) shelved.tallied))

  -- in which something is that was pending, and counts on unless it is due
  pub put_sorted : (s : Named R) → slot_at old.slots.items x ≡ Some s → timer x ≡ Some pending → to ≡ list_for old.second (until s.kept) → LeavesIf (nat_lt (until s.kept) old.second) old.tally new.tally (whose s.kept) →
      ShelvedBy until whose new (moved timer x (Some to)) None
  put_sorted s there was is leaves =
      relisted until whose old new timer x to shelved slots names used second heads cells put (rw there (inr (ap (λ n. Some n) is)))
      (rw is (relist_sorted until whose old.slots.items timer x old.second old.tally new.tally s there was (nat_lt (until s.kept) old.second) refl leaves shelved.tallied))

  -- the list that it was in has fewer
  pub put_fewer : (timed : Chained new.wheel (moved timer x (Some to))) → from < old.wheel.heads → to ≢ from → left new.wheel from < left old.wheel from
  put_fewer timed is_list ne = fewer_left shelved.timed timed from x is_list (omega (arith, is_list, heads)) at gone came
    where
      gone : moved timer x (Some to) x ≢ Some from
      gone is = let both : Some to ≡ Some from = sym (moves timer x to) ∙ is in ne (grind (arith, both))

      came : (y : ℕ) → moved timer x (Some to) y ≡ Some from → timer y ≡ Some from
      came y is = by (x == y) refl
        where
          by : (b : Bool) → (x == y) ≡ b → timer y ≡ Some from
          by true same = let there : Some to ≡ Some from = (let own : moved timer x (Some to) y ≡ Some to = rw same refl in sym own ∙ is) in absurd (ne (grind (arith, there)))
          by false other = (let own : moved timer x (Some to) y ≡ timer y = rw other refl in sym own ∙ is)

-- what a list has, once a slot was put into another, was in it
pub came_from : (timer : ℕ → Option ℕ) (x to list : ℕ) → to ≢ list → (y : ℕ) → moved (moved timer x None) x (Some to) y ≡ Some list → timer y ≡ Some list
came_from timer x to list ne y is = by (x == y) refl
  where
    by : (b : Bool) → (x == y) ≡ b → timer y ≡ Some list
    by true same = let there : Some to ≡ Some list = (let own : moved (moved timer x None) x (Some to) y ≡ Some to = rw same refl in sym own ∙ is) in absurd (ne (grind (arith, there)))
    by false other = (let own : moved (moved timer x None) x (Some to) y ≡ timer y = rw other refl in sym own ∙ is)

-- nor has a list that the slot was put into anything else that is new, and it has not even that where it was there
pub came_else : (timer : ℕ → Option ℕ) (x to list y : ℕ) → y ≢ x → moved (moved timer x None) x (Some to) y ≡ Some list → timer y ≡ Some list
came_else timer x to list y ne is =
    let apart : (x == y) ≡ false = grind (arith, nat_tests, ne) in
    (let own : moved (moved timer x None) x (Some to) y ≡ timer y = rw apart refl in sym own ∙ is)

pub came_back : (timer : ℕ → Option ℕ) (x list : ℕ) → timer x ≡ Some list → (y : ℕ) → moved (moved timer x None) x (Some list) y ≡ Some list → timer y ≡ Some list
came_back timer x list was y is = by (x == y) refl
  where
    by : (b : Bool) → (x == y) ≡ b → timer y ≡ Some list
    by true same = let at : x ≡ y = grind (arith, nat_tests, same) in subst (λ z. timer z ≡ Some list) at was
    by false other = let ne : y ≢ x = λ e. absurd (grind (arith, nat_tests, other, e)) in came_else timer x list list y ne is

-- what was in a list that is neither
pub came_moved : (timer : ℕ → Option ℕ) (from to list : ℕ) → to ≢ list → (y : ℕ) → all_moved timer from to y ≡ Some list → timer y ≡ Some list
came_moved timer from to list ne y is = by (timer y) is
  where
    by : (o : Option ℕ) → place_moved from to o ≡ Some list → o ≡ Some list
    by None is = cc
    by (Some l) is = by_list (l == from) refl
      where
        by_list : (b : Bool) → (l == from) ≡ b → Some l ≡ Some list
        by_list true same = let there : Some to ≡ Some list = (let own : place_moved from to (Some l) ≡ Some to = rw same refl in sym own ∙ is) in absurd (ne (grind (arith, there)))
        by_list false other = (let own : place_moved from to (Some l) ≡ Some l = rw other refl in sym own ∙ is)
