-- A scope text read token by token.
use Rattle.std.proofs.Common.{◌≡◌, ℕ, ◌*◌, ◌%◌, ◌^◌, ◌<◌, List, [], ◌∷◌, true, false, refl, sym, ap, ◌∙◌, arith, Option, Some, None, is_some, if◌then◌else◌, bit_or}
use Rattle.params.proofs.Names.{bytes_eq, list_all, YieldsList, bit_at_or, same_from_bits, any_twice, is_among, mask_of, place_among, is_some-position_from}
use Rattle.std.specs.Borrow.{Bor}
use Rattle.std.proofs.Math.Pow.{pow-lt}
use Rattle.std.specs.Int.Bits.{or_zero_r}
use Rattle.params.proofs.Masks.{mask_of-cons, mask_of-nil}

or_assoc : (a b c : ℕ) → bit_or (bit_or a b) c ≡ bit_or a (bit_or b c)
or_assoc a b c = same_from_bits _ _ (λ i. omega (arith, bit_at_or (bit_or a b) c i, bit_at_or a b i, bit_at_or a (bit_or b c) i, bit_at_or b c i))

-- the answer, when the tokens so far have this mask and those are left
abbrev pub scope_after : List (List ℕ) → ℕ → List (List ℕ) → Option ℕ
scope_after names mask left = if list_all (λ token. is_among token names) left then Some (bit_or mask (mask_of names left)) else None

pub scope_after-nil : (names : List (List ℕ)) (mask : ℕ) → scope_after names mask [] ≡ Some mask
scope_after-nil names mask = ap (λ m. Some (bit_or mask m)) (mask_of-nil names) ∙ ap (λ m. Some m) (or_zero_r mask)

pub scope_after-cons : (names : List (List ℕ)) (mask : ℕ) (t : List ℕ) (ts : List (List ℕ)) (i : ℕ) → any_twice names ≡ false → i < 64 → place_among t names ≡ Some i
    → scope_after names mask (t ∷ ts) ≡ scope_after names (bit_or mask (1 * 2 ^ i % 2 ^ 64)) ts
scope_after-cons names mask t ts i once small at =
    let known : is_among t names ≡ true = sym (is_some-position_from (bytes_eq t) 0 names) ∙ ap (λ o. is_some o) at in
    let bit : 1 * 2 ^ i % 2 ^ 64 ≡ 2 ^ i = omega (arith, pow-lt small) in
    rw (known, mask_of-cons names t ts i once at, bit) (ap (λ m. if list_all (λ token. is_among token names) ts then Some m else None) (sym (or_assoc mask (2 ^ i) (mask_of names ts))))

pub scope_after-none : (names : List (List ℕ)) (mask : ℕ) (t : List ℕ) (ts : List (List ℕ)) → place_among t names ≡ None → scope_after names mask (t ∷ ts) ≡ None
scope_after-none names mask t ts none =
    let unknown : is_among t names ≡ false = sym (is_some-position_from (bytes_eq t) 0 names) ∙ ap (λ o. is_some o) none in
    rw unknown refl

-- what a step of the iterator takes from what it has left to yield
module _ {S : Type 0} {steps : S → Option (Bor (List ℕ)) → S → Type 0} where
  pub left-some : (s t : S) (x : Bor (List ℕ)) (left : List (List ℕ)) → YieldsList steps (λ y. y.now) s left → steps s (Some x) t
      → (ts : List (List ℕ)) × YieldsList steps (λ y. y.now) t ts × (left ≡ x.now ∷ ts)
  left-some s t x [] h k = absurd (h.runs x t k)
  left-some s t x (y ∷ ys) h k = let w = h.runs.1 x t k in (ys, record { runs = w.1 }, ap (λ z. z ∷ ys) (sym w.0))

  pub left-none : (s t : S) (left : List (List ℕ)) → YieldsList steps (λ y. y.now) s left → steps s None t → left ≡ []
  left-none s t [] h k = refl
  left-none s t (y ∷ ys) h k = absurd (h.runs.0 t k)
