-- What a write into a part of a list leaves.
use Rattle.std.proofs.Common.{◌≡◌, ℕ, ◌+◌, ◌-◌, ◌≤◌, List, ◌++◌, length, take, drop, refl, sym, ap, ◌∙◌, arith}
use Rattle.machine.proofs.Names.{drop-drop, low_bytes, written}
use borrow.Rule.Slice.PartMut.{mid_len, mid_of, put_mid}

-- new items in the place of as many
pub part_written : {A : Type 0} (at k : ℕ) (xs ys zs : List A) → ys ≡ zs → length zs ≡ k → put_mid at k xs ys ≡ written xs at zs
part_written {A} at k xs ys zs same long =
    rw same (ap (λ (l : List A). take at xs ++ (zs ++ l)) (drop-drop k at xs ∙ ap (λ (n : ℕ). drop (at + n) xs) (sym long)))

-- as many low bytes as the part has places
pub low_in_part : {A : Type 0} (at end n value : ℕ) (xs : List A) → end ≡ at + n → at + n ≤ length xs → low_bytes (length (mid_of at (end - at) xs)) value ≡ low_bytes n value
low_in_part {A} at end n value xs ends inside =
    let long : length (mid_of at (end - at) xs) ≡ n = omega (arith, mid_len at end xs (omega arith)) in
    ap (λ (k : ℕ). low_bytes k value) long

-- the part of so many items
pub same_part : {A : Type 0} (at end n : ℕ) (xs : List A) → end ≡ at + n → mid_of at (end - at) xs ≡ take n (drop at xs)
same_part at end n xs ends = let e : end - at ≡ n = omega arith in rw e refl
