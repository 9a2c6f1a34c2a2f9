-- What is taken, and what is put in its place.
use Rattle.std.proofs.Common.{◌≡◌, ◌≤◌, ◌<◌, ◌+◌, ◌∙◌, ℕ, List, [], ◌∷◌, Option, Some, None, Bool, true, false, length, refl, ap, sym, subst, arith}
use Rattle.std.specs.Prelude.{IfNone, IfSome, if◌then◌else◌, nat_le}
use Rattle.std.specs.List.{IsDistinct}
use Rattle.std.specs.List.Sorted.{IsPermutation}
use Rattle.std.specs.Map.{keys_of, lookup, remove_entry}
use Rattle.std.specs.Str.{bytes_eq}
use Rattle.std.proofs.lemmas.Bool.Decides.{nat_tests}
use Rattle.std.proofs.lemmas.Cmp.{nat_list_eq_equiv}
use Rattle.std.proofs.lemmas.Map.{lookup-remove_entry}
use Rattle.std.proofs.lemmas.Slice.Eq.{bytes_eq-Decides}
use Rattle.shelf.specs.declared.shelf.Shelf.{Shelf}
use Rattle.shelf.specs.Shelved.{Named}
use Rattle.shelf.specs.Shelved.{AllLast, IsHeldAt, entries_of, is_named, slot_at}
use Rattle.shelf.specs.Looking.{IsDueIn, IsExpiredAt, is_expired}
use Rattle.shelf.proofs.Timing.{due_over, in_entries, slot_inside}

-- BY NAME

-- where a digest names what is in a slot, something is in it
pub named_slot : {R : Type 0} (d : List ℕ) (o : Option (Named R)) → is_named d o ≡ true → (s : Named R) × (o ≡ Some s) × (bytes_eq d s.key ≡ true)
named_slot d None is = cc
named_slot d (Some s) is = (s, refl, is)

pub named_held : {R : Type 0} (shelf : Shelf R) (d : List ℕ) (x : ℕ) → is_named d (slot_at shelf.slots.items x) ≡ true → IsHeldAt shelf x
named_held shelf d x is = let there = named_slot d (slot_at shelf.slots.items x) is in record { slot = there.0; at = there.1 }

-- WHAT HAS EXPIRED

pub expired_at : {R : Type 0} (until : R → ℕ) (shelf : Shelf R) (x moment : ℕ) → is_expired until moment (slot_at shelf.slots.items x) ≡ true → IsExpiredAt until shelf x moment
expired_at {R} until shelf x moment is = by (slot_at shelf.slots.items x) refl is
  where
    by : (o : Option (Named R)) → slot_at shelf.slots.items x ≡ o → is_expired until moment o ≡ true → IsExpiredAt until shelf x moment
    by None at is = cc
    by (Some s) at is = record { slot = s; at = at; expired = grind (arith, nat_tests, is) }

pub none_expired : {R : Type 0} (until : R → ℕ) (shelf : Shelf R) (moment n : ℕ) → ((k : ℕ) → k < n → is_expired until moment (slot_at shelf.slots.items k) ≡ false) → length shelf.slots.items ≤ n → AllLast until (entries_of shelf) moment
none_expired {R} until shelf moment n none le = in_entries until moment shelf.slots.items each
  where
    each : (x : ℕ) (s : Named R) → slot_at shelf.slots.items x ≡ Some s → moment < until s.kept
    each x s at =
        let inside = slot_inside shelf.slots.items x s at in
        let is = none x (omega (arith, inside, le)) in
        grind (arith, nat_tests, is, at)

pub due_expired : {R : Type 0} (until whose : R → ℕ) (shelf : Shelf R) (moment x : ℕ) → shelf.second ≡ moment + 1 → IsDueIn until whose shelf x × IsHeldAt shelf x → IsExpiredAt until shelf x moment
due_expired until whose shelf moment x is there = record {
  slot = there.1.slot;
  at = there.1.at;
  expired = (let before = due_over until whose shelf x there.1.slot there.0 there.1.at in omega (arith, before, is));
}
