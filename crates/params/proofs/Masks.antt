-- Names, and masks of them.
use Rattle.std.proofs.Common.{◌≡◌, ℕ, ◌+◌, ◌*◌, ◌^◌, ◌<◌, suc, zero, List, [], ◌∷◌, map, length, Bool, true, false, cond, refl, sym, ap, ◌∙◌, arith, Option, Some, None, option_map, bit_or, add-one}
use Rattle.params.proofs.Names.{String, bytes_eq, list_any, position_from, or_parts, pow-succ', any_twice}
use Rattle.params.proofs.Names.{bytes_eq-sym, same_bytes, bit_of, bit_of-small, is_among, mask_of, place_among}
use Rattle.std.specs.Prelude.{string_bytes}
use Rattle.std.proofs.lemmas.Nat.{or_block}

module _ {Y : Type 0} where
  pub position_from-texts : (name : List ℕ) (i : ℕ) (names : List (String Y)) → position_from (λ s. bytes_eq name (string_bytes s)) i names ≡ position_from (bytes_eq name) i (map string_bytes names)
  position_from-texts name i [] = refl
  position_from-texts name i (n ∷ names) = ap (λ o. cond (bytes_eq name (string_bytes n)) (Some i) o) (position_from-texts name (i + 1) names)

-- ---- one more token

-- doubling, and setting the lowest bit
bit_or-even : (x b m : ℕ) → b < 2 → bit_or (2 * x) (b + 2 * m) ≡ b + 2 * bit_or x m
bit_or-even x b m small =
    let left : 2 * x ≡ x * 2 ^ 1 + 0 = omega arith in
    let right : b + 2 * m ≡ m * 2 ^ 1 + b = omega arith in
    let both : bit_or (x * 2 ^ 1 + 0) (m * 2 ^ 1 + b) ≡ bit_or x m * 2 ^ 1 + b = or_block 1 x m 0 b (omega arith) small in
    rw (left, right, both) (omega arith)

bit_or-one : (b m : ℕ) → b < 2 → bit_or 1 (b + 2 * m) ≡ 1 + 2 * m
bit_or-one b m small =
    let right : b + 2 * m ≡ m * 2 ^ 1 + b = omega arith in
    let both : bit_or 1 (m * 2 ^ 1 + b) ≡ m * 2 ^ 1 + bit_or 1 b = or_block 1 0 m 1 b (omega arith) small in
    rw (right, both, lowest b small) (omega arith)
  where
    lowest : (b : ℕ) → b < 2 → bit_or 1 b ≡ 1
    lowest zero small = refl
    lowest (suc zero) small = refl
    lowest (suc (suc b)) small = absurd (omega arith)

pub mask_of-nil : (names : List (List ℕ)) → mask_of names [] ≡ 0
mask_of-nil [] = refl
mask_of-nil (n ∷ names) = omega (arith, mask_of-nil names)

-- a token that is no name adds no bit
pub mask_of-cons_other : (names : List (List ℕ)) (t : List ℕ) (ts : List (List ℕ)) → is_among t names ≡ false → mask_of names (t ∷ ts) ≡ mask_of names ts
mask_of-cons_other [] t ts other = refl
mask_of-cons_other (n ∷ names) t ts other =
    let parts = or_parts (bytes_eq t n) (is_among t names) other in
    rw (bytes_eq-sym n t, parts.0, mask_of-cons_other names t ts parts.1) refl

place_after : (t : List ℕ → Bool) (k : ℕ) (names : List (List ℕ)) → position_from t (k + 1) names ≡ option_map (λ j. j + 1) (position_from t k names)
place_after t k [] = refl
place_after t k (n ∷ names) = let later = place_after t (k + 1) names in grind (arith, later)

-- one more token sets the bit of its place
pub mask_of-cons : (names : List (List ℕ)) (t : List ℕ) (ts : List (List ℕ)) (i : ℕ) → any_twice names ≡ false → place_among t names ≡ Some i → mask_of names (t ∷ ts) ≡ bit_or (2 ^ i) (mask_of names ts)
mask_of-cons [] t ts i once at = cc at
mask_of-cons (n ∷ names) t ts i once at = by (bytes_eq t n) refl (position_from (bytes_eq t) 0 names) refl at (λ j f. mask_of-cons names t ts j parts.1 f)
  where
    parts : (list_any (bytes_eq n) names ≡ false) × (any_twice names ≡ false)
    parts = or_parts (list_any (bytes_eq n) names) (any_twice names) once

    by : (b : Bool) → bytes_eq t n ≡ b → (o : Option ℕ) → position_from (bytes_eq t) 0 names ≡ o
        → cond b (Some 0) (position_from (bytes_eq t) 1 names) ≡ Some i
        → ((j : ℕ) → place_among t names ≡ Some j → mask_of names (t ∷ ts) ≡ bit_or (2 ^ j) (mask_of names ts))
        → mask_of (n ∷ names) (t ∷ ts) ≡ bit_or (2 ^ i) (mask_of (n ∷ names) ts)
    by true e o f at later =
        let first : 0 ≡ i = cc at in
        let other : is_among t names ≡ false = ap (λ m. is_among m names) (same_bytes t n e) ∙ parts.0 in
        rw (bytes_eq-sym n t, e, mask_of-cons_other names t ts other) (sym (bit_or-one (bit_of n ts) (mask_of names ts) (bit_of-small n ts)) ∙ ap (λ k. bit_or (2 ^ k) (mask_of (n ∷ names) ts)) first)
    by false e None f at later =
        let none : position_from (bytes_eq t) 1 names ≡ None = place_after (bytes_eq t) 0 names ∙ ap (λ o. option_map (λ j. j + 1) o) f in
        cc (none, at)
    by false e (Some j) f at later =
        let some : position_from (bytes_eq t) 1 names ≡ Some (j + 1) = place_after (bytes_eq t) 0 names ∙ ap (λ o. option_map (λ j. j + 1) o) f in
        let next : j + 1 ≡ i = cc (some, at) in
        rw (bytes_eq-sym n t, e, later j f) (sym (bit_or-even (2 ^ j) (bit_of n ts) (mask_of names ts) (bit_of-small n ts)) ∙ ap (λ k. bit_or k (mask_of (n ∷ names) ts)) (sym (pow-succ' 2 j) ∙ ap (λ k. 2 ^ k) (sym (add-one j))) ∙ ap (λ k. bit_or (2 ^ k) (mask_of (n ∷ names) ts)) next)

place_before : (t : List ℕ → Bool) (k : ℕ) (names : List (List ℕ)) (i : ℕ) → position_from t k names ≡ Some i → i < k + length names
place_before t k [] i at = cc at
place_before t k (n ∷ names) i at = let later = place_before t (k + 1) names i in grind (arith, later, at)

-- a place is one of the list
pub place-lt : (names : List (List ℕ)) (t : List ℕ) (i : ℕ) → place_among t names ≡ Some i → i < length names
place-lt names t i at = omega (arith, place_before (bytes_eq t) 0 names i at)
