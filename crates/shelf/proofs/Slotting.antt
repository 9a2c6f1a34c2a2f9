-- What is so in the slots is so of the entries.
use Rattle.std.proofs.Common.{◌≡◌, ◌<◌, ◌≤◌, ◌+◌, ℕ, zero, suc, List, [], ◌∷◌, Option, Some, None, Bool, true, false, length, set, take, refl, ap, arith}
use Rattle.std.specs.Prelude.{count_by, if◌then◌else◌}
use Rattle.std.specs.Map.{values_of}
use Rattle.std.proofs.lemmas.List.{length-take, take_all}
use Rattle.std.proofs.lemmas.List.Sums.{count_by-le-length, count_by_more_no, count_by_more_yes, sum_by-cons}
use Rattle.shelf.specs.declared.shelf.Slot.{Slot}
use Rattle.shelf.specs.Shelved.{entries_in, in_slot, slot_at}

-- what is so in the slots is so of the entries
pub count_slots : {K R : Type 0} (p : R → Bool) (slots : List (Option (Slot K R))) → count_by (in_slot p) slots ≡ count_by p (values_of (entries_in slots))
count_slots p [] = refl
count_slots p (None ∷ ss) =
    let more = count_slots p ss in
    let one = sum_by-cons (λ o. if in_slot p o then 1 else 0) None ss in
    grind (arith, more, one)
count_slots p (Some s ∷ ss) =
    let more = count_slots p ss in
    let one = sum_by-cons (λ o. if in_slot p o then 1 else 0) (Some s) ss in
    let two = sum_by-cons (λ r. if p r then 1 else 0) s.kept (values_of (entries_in ss)) in
    grind (arith, more, one, two)

-- no more is kept than there are slots
pub few_entries : {K R : Type 0} (slots : List (Option (Slot K R))) → length (entries_in slots) ≤ length slots
few_entries [] = omega arith
few_entries (None ∷ ss) = let more = few_entries ss in omega (arith, more)
few_entries (Some s ∷ ss) = let more = few_entries ss in omega (arith, more)

-- what is put there twice is put there once
pub set_over : {A : Type 0} (xs : List A) (i : ℕ) (a b : A) → set (set xs i a) i b ≡ set xs i b
set_over [] i a b = refl
set_over (x ∷ xs) zero a b = refl
set_over (x ∷ xs) (suc i) a b = ap (λ ys. x ∷ ys) (set_over xs i a b)

-- how many of the first pass a test
pub count_taken : {X : Type 0} (p : X → Bool) (n : ℕ) (xs : List X) → count_by p (take n xs) ≤ n
count_taken p n xs = let le = count_by-le-length p (take n xs) in let few = length-take n xs in omega (arith, le, few)

pub count_on : {K R : Type 0} (p : Option (Slot K R) → Bool) (n : ℕ) (slots : List (Option (Slot K R))) → n < length slots → count_by p (take (n + 1) slots) ≡ count_by p (take n slots) + (if p (slot_at slots n) then 1 else 0)
count_on p n slots inside = by (p (slot_at slots n)) refl
  where
    by : (b : Bool) → p (slot_at slots n) ≡ b → count_by p (take (n + 1) slots) ≡ count_by p (take n slots) + (if p (slot_at slots n) then 1 else 0)
    by true passes = let more = count_by_more_yes p slots n None inside passes in rw passes more
    by false fails = let more = count_by_more_no p slots n None inside fails in rw fails (omega (arith, more))

pub count_all_taken : {X : Type 0} (p : X → Bool) (n : ℕ) (xs : List X) → length xs ≤ n → count_by p (take n xs) ≡ count_by p xs
count_all_taken p n xs le = ap (count_by p) (take_all n xs le)
