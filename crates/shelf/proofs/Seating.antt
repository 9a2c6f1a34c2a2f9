-- What is seen in cells as they change.
use Rattle.std.proofs.Common.{◌≡◌, ◌<◌, ◌≤◌, ◌+◌, ◌++◌, ◌∙◌, ℕ, zero, suc, List, [], ◌∷◌, Option, Some, None, Bool, true, false, length, set, get_or, refl, ap, sym, arith}
use Rattle.std.specs.Prelude.{if◌then◌else◌}
use Rattle.shelf.specs.declared.shelf.Slot.{Slot}
use Rattle.shelf.specs.Looking.{is_held}
use Rattle.shelf.specs.Seated.{seen}
use Rattle.shelf.specs.Shelved.{slot_at}

-- a cell that is full is one of them
pub full_inside : (fs : List Bool) (x : ℕ) → get_or fs x false ≡ true → x < length fs
full_inside [] x is = cc
full_inside (f ∷ fs) zero is = omega arith
full_inside (f ∷ fs) (suc x) is = let more = full_inside fs x is in omega (arith, more)

module _ {K V : Type 0} where
  pub seen_long : (fs : List Bool) (cs : List (Slot K V)) → length fs ≡ length cs → length (seen fs cs) ≡ length fs
  seen_long [] cs long = refl
  seen_long (f ∷ fs) [] long = absurd (omega (arith, long))
  seen_long (f ∷ fs) (c ∷ cs) long = ap suc (seen_long fs cs (omega (arith, long)))

  -- it is held where the cell is full
  pub seen_held : (fs : List Bool) (cs : List (Slot K V)) (x : ℕ) → length fs ≡ length cs → is_held (slot_at (seen fs cs) x) ≡ get_or fs x false
  seen_held [] cs x long = refl
  seen_held (f ∷ fs) [] x long = absurd (omega (arith, long))
  seen_held (true ∷ fs) (c ∷ cs) zero long = refl
  seen_held (false ∷ fs) (c ∷ cs) zero long = refl
  seen_held (f ∷ fs) (c ∷ cs) (suc x) long = seen_held fs cs x (omega (arith, long))

  -- where something is seen there is a cell
  pub seen_inside : (fs : List Bool) (cs : List (Slot K V)) (x : ℕ) → is_held (slot_at (seen fs cs) x) ≡ true → x < length fs
  seen_inside [] cs x held = cc
  seen_inside (f ∷ fs) [] x held = cc
  seen_inside (f ∷ fs) (c ∷ cs) zero held = omega arith
  seen_inside (f ∷ fs) (c ∷ cs) (suc x) held = let more = seen_inside fs cs x held in omega (arith, more)

  -- and it is what is in that
  pub seen_there : (fs : List Bool) (cs : List (Slot K V)) (x : ℕ) (d : Slot K V) → is_held (slot_at (seen fs cs) x) ≡ true → slot_at (seen fs cs) x ≡ Some (get_or cs x d)
  seen_there [] cs x d held = cc
  seen_there (f ∷ fs) [] x d held = cc
  seen_there (true ∷ fs) (c ∷ cs) zero d held = refl
  seen_there (false ∷ fs) (c ∷ cs) zero d held = cc
  seen_there (f ∷ fs) (c ∷ cs) (suc x) d held = seen_there fs cs x d held

  pub seen_filled : (fs : List Bool) (cs : List (Slot K V)) (x : ℕ) (c : Slot K V) → seen (set fs x true) (set cs x c) ≡ set (seen fs cs) x (Some c)
  seen_filled [] cs x c = refl
  seen_filled (f ∷ fs) [] zero c = refl
  seen_filled (f ∷ fs) [] (suc x) c = refl
  seen_filled (f ∷ fs) (d ∷ cs) zero c = refl
  seen_filled (f ∷ fs) (d ∷ cs) (suc x) c = ap (λ ss. (if f then Some d else None) ∷ ss) (seen_filled fs cs x c)

  pub seen_cleared : (fs : List Bool) (cs : List (Slot K V)) (x : ℕ) (c : Slot K V) → seen (set fs x false) (set cs x c) ≡ set (seen fs cs) x None
  seen_cleared [] cs x c = refl
  seen_cleared (f ∷ fs) [] zero c = refl
  seen_cleared (f ∷ fs) [] (suc x) c = refl
  seen_cleared (f ∷ fs) (d ∷ cs) zero c = refl
  seen_cleared (f ∷ fs) (d ∷ cs) (suc x) c = ap (λ ss. (if f then Some d else None) ∷ ss) (seen_cleared fs cs x c)

  pub seen_more : (fs : List Bool) (cs : List (Slot K V)) (c : Slot K V) → length fs ≡ length cs → seen (fs ++ false ∷ []) (cs ++ c ∷ []) ≡ seen fs cs ++ None ∷ []
  seen_more [] [] c long = refl
  seen_more [] (d ∷ cs) c long = absurd (omega (arith, long))
  seen_more (f ∷ fs) [] c long = absurd (omega (arith, long))
  seen_more (f ∷ fs) (d ∷ cs) c long = ap (λ ss. (if f then Some d else None) ∷ ss) (seen_more fs cs c (omega (arith, long)))

  -- nothing is seen where the cell is not full
  pub seen_none : (fs : List Bool) (cs : List (Slot K V)) (x : ℕ) → get_or fs x false ≡ false → slot_at (seen fs cs) x ≡ None
  seen_none [] cs x empty = refl
  seen_none (f ∷ fs) [] x empty = refl
  seen_none (true ∷ fs) (c ∷ cs) zero empty = cc
  seen_none (false ∷ fs) (c ∷ cs) zero empty = refl
  seen_none (f ∷ fs) (c ∷ cs) (suc x) empty = seen_none fs cs x empty
