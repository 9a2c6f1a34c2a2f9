-- Numbers of a few bytes.
use Rattle.std.proofs.Common.{◌≡◌, ℕ, suc, ◌+◌, ◌-◌, ◌*◌, ◌/◌, ◌%◌, ◌^◌, ◌<◌, ◌≤◌, List, [], ◌∷◌, ◌++◌, length, take, drop, set, length-drop, arith, refl, sym, ap, ◌∙◌, append_assoc}
use Rattle.machine.proofs.Names.{take_more_set, length-take, low_bytes}
use Rattle.std.proofs.Math.Pow.{pow_mono}
use Rattle.std.proofs.lemmas.Nat.{pow-add}

-- seven bytes leave room for an eighth
pub room_for_one_more : (k high : ℕ) → k ≤ 7 → high < 2 ^ (8 * k) → high < 2 ^ 56
room_for_one_more k high few small = let bound : 2 ^ (8 * k) ≤ 2 ^ 56 = pow_mono {i = 8 * k} {j = 56} (omega arith) in omega arith

pub one_more : (k low high : ℕ) → low < 256 → high < 2 ^ (8 * k) → low + 256 * high < 2 ^ (8 * suc k)
one_more k low high byte small =
    let e : 8 * suc k ≡ 8 * k + 8 = omega arith in
    rw (e, pow-add 2 (8 * k) 8) (omega arith)

-- the lowest byte comes first
pub low_bytes-next : (n i value : ℕ) → i < n → low_bytes (n - i) value ≡ value % 256 ∷ low_bytes (n - (i + 1)) (value / 256)
low_bytes-next n i value lt = let k : n - i ≡ suc (n - (i + 1)) = omega arith in rw k refl

-- the next item goes from what is left to what is written
pub moved_over : {A : Type 0} (all xs : List A) (i : ℕ) (x : A) (left left' : List A) → i < length xs → all ≡ take i xs ++ left → left ≡ x ∷ left' → all ≡ take (i + 1) (set xs i x) ++ left'
moved_over {A} all xs i x left left' lt so_far next =
    so_far ∙ ap (λ (l : List A). take i xs ++ l) next ∙ sym (append_assoc (take i xs) (x ∷ []) left') ∙ ap (λ (l : List A). l ++ left') (sym (take_more_set xs i x lt))

-- how long the rest of a list is, as code takes it
pub length-rest : {A : Type 0} (xs : List A) → length (take (length xs - 1) (drop 1 xs)) ≡ length xs - 1
length-rest xs = omega (arith, length-take (length xs - 1) (drop 1 xs), length-drop 1 xs)

pub rest_fits : {A : Type 0} (xs : List A) (high : ℕ) → 1 ≤ length xs → length xs ≤ 8 → high < 2 ^ (8 * length (take (length xs - 1) (drop 1 xs))) → high < 2 ^ 56
rest_fits xs high some few small =
    room_for_one_more (length (take (length xs - 1) (drop 1 xs))) high (omega (arith, length-rest xs)) small

pub with_low : {A : Type 0} (xs : List A) (low high : ℕ) → 1 ≤ length xs → low < 256 → high < 2 ^ (8 * length (take (length xs - 1) (drop 1 xs))) → low + 256 * high < 2 ^ (8 * length xs)
with_low xs low high some byte small =
    let e : suc (length (take (length xs - 1) (drop 1 xs))) ≡ length xs = omega (arith, length-rest xs) in
    rw (← e) (one_more (length (take (length xs - 1) (drop 1 xs))) low high byte small)
