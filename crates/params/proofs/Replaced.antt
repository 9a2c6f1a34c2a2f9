-- U+FFFD in a text, and what a search for it answers.
use Rattle.std.proofs.Common.{zero, suc, inl, inr, ◌≡◌, ℕ, ◌≤◌, List, [], ◌∷◌, ◌++◌, length, drop, Bool, true, false, nat_eq, refl, sym, arith, MatchBool, None, ◌&&◌, ◌||◌, ◌<◌, take, ap, ◌∙◌, IsAscii}
use Rattle.params.proofs.Names.{pointwise, starts_with, FindsText, HasMatch, ne_eqb, or_cases, or_left, or_right, Decides-eqb, starts_is, has_replacement}
use Rattle.std.specs.Str.Lossy.{replacement_bytes}

-- where it stands, the test says so
found_at : (text : List ℕ) (i : ℕ) (rest : List ℕ) → drop i text ≡ replacement_bytes ++ rest → has_replacement text ≡ true
found_at [] zero rest is = cc is
found_at [] (suc i) rest is = cc is
found_at (b ∷ bs) zero rest is = or_left _ _ ((starts_is Decides-eqb (b ∷ bs) replacement_bytes _ refl).1 rest is)
found_at (b ∷ bs) (suc i) rest is = or_right _ _ (found_at bs i rest is)

-- where the test says so, it stands
place_of : (text : List ℕ) → has_replacement text ≡ true → (i : ℕ) × (i ≤ length text) × (rest : List ℕ) × (drop i text ≡ replacement_bytes ++ rest)
place_of [] is = cc is
place_of (b ∷ bs) is =
    elim (or_cases (starts_with nat_eq (b ∷ bs) replacement_bytes) (has_replacement bs) is) [
      | inl e ↦ (0, omega arith, drop 3 (b ∷ bs), (starts_is Decides-eqb (b ∷ bs) replacement_bytes _ refl).0 e)
      | inr e ↦ let w = place_of bs e in (suc w.0, omega (arith, w.1), w.2, w.3)
    ]

pub contains_is : (r : Bool) (text : List ℕ) → MatchBool r (HasMatch (FindsText replacement_bytes) text) (FindsText replacement_bytes text None) → r ≡ has_replacement text
contains_is true text h = sym (found_at text h.0 (drop h.1 text) h.2.1.split)
contains_is false text h = by (has_replacement text) refl
  where
    by : (b : Bool) → has_replacement text ≡ b → false ≡ b
    by false e = refl
    by true e = let w = place_of text e in absurd (h w.0 w.1 w.2 w.3)

-- ASCII has none
pub ascii_has_none : (text : List ℕ) → IsAscii text → has_replacement text ≡ false
ascii_has_none [] ascii = refl
ascii_has_none (b ∷ text) ascii =
    let small : b < 128 = ascii 0 in
    ap (λ first. (first && pointwise nat_eq (0xBF ∷ 0xBD ∷ []) (take 2 text)) || has_replacement text) (ne_eqb 0xEF b (λ same. omega (arith, small, same)))
    ∙ ascii_has_none text (λ i. ascii (suc i))
