-- The zeros at the end of what was written.
use Rattle.std.proofs.Common.{◌≡◌, ◌<◌, ◌≤◌, ◌-◌, ◌∙◌, ℕ, zero, suc, List, [], ◌∷◌, length, drop, get_or, refl, sym, ap, subst, arith}
use Rattle.std.proofs.lemmas.List.{drop_all}
use Rattle.std.specs.Prelude.{replicate}

drop_one : (l : List ℕ) (n : ℕ) → n < length l → drop n l ≡ get_or l n 0 ∷ drop (suc n) l
drop_one [] n less = absurd (omega (arith, less))
drop_one (x ∷ xs) zero less = refl
drop_one (x ∷ xs) (suc n) less = drop_one xs n (omega (arith, less))

one_more : (l : List ℕ) (n : ℕ) → n < length l → 0 ≡ get_or l n 0 → drop (suc n) l ≡ replicate (length l - suc n) 0 → drop n l ≡ replicate (length l - n) 0
one_more l n less is zeros =
    let long : suc (length l - suc n) ≡ length l - n = omega (arith, less) in
    drop_one l n less ∙ ap (λ (b : ℕ). b ∷ drop (suc n) l) (sym is) ∙ ap (λ (more : List ℕ). 0 ∷ more) zeros ∙ ap (λ (k : ℕ). replicate k 0) long

-- one zero more before the others
pub one_zero_more : (l : List ℕ) (size : ℕ) → 1 ≤ size → size ≤ length l → 0 ≡ get_or l (size - 1) 0 → drop size l ≡ replicate (length l - size) 0
    → drop (size - 1) l ≡ replicate (length l - (size - 1)) 0
one_zero_more l size some within is zeros =
    let same : suc (size - 1) ≡ size = omega (arith, some) in
    one_more l (size - 1) (omega (arith, some, within)) is (subst (λ (k : ℕ). drop k l ≡ replicate (length l - k) 0) (sym same) zeros)

-- before the first of them
pub no_zero : (l : List ℕ) → drop (length l) l ≡ replicate (length l - length l) 0
no_zero l =
    let none : 0 ≡ length l - length l = omega arith in
    drop_all (length l) l (omega arith) ∙ ap (λ (n : ℕ). replicate n 0) none
