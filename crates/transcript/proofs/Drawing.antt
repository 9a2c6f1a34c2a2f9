-- Words that spell draws.
use Rattle.std.proofs.Common.{◌≡◌, ◌<◌, ◌≤◌, ℕ, suc, zero, List, [], ◌∷◌, inl, inr, codes, map, get_or, take, length, Some, None, Bor, refl, sym, ap, ◌∙◌, subst, arith}
use Rattle.transcript.proofs.Names.{take_all, slice_split, Draws, draws_in, AllDraw, SpellsDraws}
use Rattle.std.specs.Bool.{◌==◌}

abbrev pub texts : List (Bor (List ℕ)) → List (List ℕ)
texts words = map (λ word. word.now) words

-- a minus is hex of nothing
minus_draws_nothing : (draws : List Draws) → AllDraw (codes "-" ∷ []) draws → ⊥
minus_draws_nothing [] all = cc
minus_draws_nothing (d ∷ draws) all = cc

pub minus : (word : List ℕ) (draws : List Draws) → word ≡ codes "-" → SpellsDraws word draws → draws ≡ []
minus word draws is_minus (inl h) = h.1
minus word draws is_minus (inr h) = absurd (minus_draws_nothing draws (subst (λ w. AllDraw (slice_split (λ c. c == 44) w) draws) is_minus h))

all_some : {X : Type 0} (xs ys : List X) → map Some xs ≡ map Some ys → xs ≡ ys
all_some [] [] same = refl
all_some (x ∷ xs) (y ∷ ys) same = let rest : xs ≡ ys = all_some xs ys cc in let first : x ≡ y = cc in cc
all_some _ _ same = cc

-- words draw one list at most
pub same_draws : (words : List (Bor (List ℕ))) (i : ℕ) (draws other : List Draws) → length words ≤ i → AllDraw (texts (take i words)) draws
    → AllDraw (texts words) other → Some draws ≡ Some other
same_draws words i draws other past h k =
    let whole : AllDraw (texts words) draws = subst (λ front. AllDraw (texts front) draws) (take_all i words past) h in
    ap Some (all_some draws other (sym whole ∙ k))

-- a word that draws nothing
pub draws_nothing : (words : List (Bor (List ℕ))) (i : ℕ) (d : Bor (List ℕ)) → i < length words → draws_in (get_or words i d).now ≡ None
    → (other : List Draws) → AllDraw (texts words) other → ⊥
draws_nothing [] i d below none other all = absurd (omega arith)
draws_nothing (w ∷ words) (suc i) d below none (o ∷ other) all = draws_nothing words i d (omega arith) none other cc
draws_nothing (w ∷ words) i d below none [] all = cc
draws_nothing (w ∷ words) zero d below none (o ∷ other) all = cc
