-- The items of a list one by one, and parameters and names among them.
use Rattle.std.proofs.Common.{◌≡◌, ◌<◌, ℕ, ◌+◌, add-one, suc, List, [], ◌∷◌, ◌++◌, length, drop, get_or, map, Bool, cond, sym, ap, ◌∙◌, arith, Option, Some, is_some}
use Rattle.params.proofs.Names.{bytes_eq, list_any, drop-map, list_any-append, value_sent, bytes_eq-sym}
use Rattle.std.proofs.Math.Seq.{drop-cons}

-- the next item of a list, and of what it is mapped to
module _ {X : Type 0} where
  pub next_item : (xs : List X) (i : ℕ) (x : X) → x ≡ get_or xs i x → i < length xs → drop i xs ≡ x ∷ drop (i + 1) xs
  next_item xs i x is within = rw (add-one) (drop-cons xs i x within ∙ ap (λ y. y ∷ drop (suc i) xs) (sym is))

  pub next_mapped : {Y : Type 0} (f : X → Y) (xs : List X) (i : ℕ) (x : X) → x ≡ get_or xs i x → i < length xs
      → drop i (map f xs) ≡ f x ∷ drop (i + 1) (map f xs)
  next_mapped f xs i x is within =
      drop-map f i xs ∙ ap (λ l. map f l) (next_item xs i x is within) ∙ ap (λ l. f x ∷ l) (sym (drop-map f (i + 1) xs))

-- the value of a name, looked up from the next parameter on
pub value_at : (name : List ℕ) (params : List (List ℕ × List ℕ)) (i : ℕ) (p : List ℕ × List ℕ) (b : Bool)
    → drop i params ≡ p ∷ drop (i + 1) params → value_sent name params ≡ value_sent name (drop i params) → bytes_eq name p.0 ≡ b
    → value_sent name params ≡ cond b (Some p.1) (value_sent name (drop (i + 1) params))
value_at name params i p b next so_far test =
    so_far ∙ ap (λ ps. value_sent name ps) next ∙ ap (λ t. cond t (Some p.1) (value_sent name (drop (i + 1) params))) test

-- a name is among those taken, and then among those with one more
pub taken_with : {X : Type 0} (q name : List ℕ) (taken : List (List ℕ)) (o : Option X) (w : X) → is_some o ≡ list_any (bytes_eq q) taken
    → is_some (cond (bytes_eq name q) (Some w) o) ≡ list_any (bytes_eq q) (taken ++ name ∷ [])
taken_with q name taken o w so_far =
    let any = list_any-append (bytes_eq q) taken (name ∷ []) in
    let same = bytes_eq-sym q name in
    grind (arith, any, same, so_far)
