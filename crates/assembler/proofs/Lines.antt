-- Comments, words and labels.
use Rattle.std.proofs.Common.{◌≡◌, ◌≢◌, ℕ, cond, ◌+◌, ◌==◌, true, false, Bool, List, [], ◌∷◌, ◌++◌, length, take, Some, None, not, refl, ap, arith}
use Rattle.assembler.proofs.Names.{option_map, ne_eqb, before_comment, labelled, is_empty, Word}

end_step : (x : ℕ) (xs : List ℕ) (b : Bool) → before_comment xs ≡ take (length (before_comment xs)) xs → cond b [] (x ∷ before_comment xs) ≡ take (length (cond b [] (x ∷ before_comment xs))) (x ∷ xs)
end_step x xs true h = refl
end_step x xs false h = ap (λ (w : Word). x ∷ w) h

pub before_comment_end : (xs : List ℕ) → before_comment xs ≡ take (length (before_comment xs)) xs
before_comment_end [] = refl
before_comment_end (x ∷ xs) = end_step x xs (x == 59) (before_comment_end xs)

pub comment_hit : (x : ℕ) (xs : List ℕ) → x ≡ 59 → length (before_comment (x ∷ xs)) ≡ 0
comment_hit x xs e = rw e refl

pub comment_miss : (x : ℕ) (xs : List ℕ) → x ≢ 59 → length (before_comment (x ∷ xs)) ≡ length (before_comment xs) + 1
comment_miss x xs e = rw (ne_eqb x 59 e) (omega arith)

pub labelled_colon : (name : Word) → labelled (name ++ 58 ∷ []) ≡ Some name
labelled_colon [] = refl
labelled_colon (x ∷ []) = refl
labelled_colon (x ∷ y ∷ name) = ap (option_map (λ (w : Word). x ∷ w)) (labelled_colon (y ∷ name))

pub labelled_other : (name : Word) (c : ℕ) → c ≢ 58 → labelled (name ++ c ∷ []) ≡ None
labelled_other [] c e = rw (ne_eqb c 58 e) refl
labelled_other (x ∷ []) c e = ap (option_map (λ (w : Word). x ∷ w)) (labelled_other [] c e)
labelled_other (x ∷ y ∷ name) c e = ap (option_map (λ (w : Word). x ∷ w)) (labelled_other (y ∷ name) c e)

pub empty_by_length : (w : Word) → not (length w == 0) ≡ not (is_empty w)
empty_by_length [] = refl
empty_by_length (c ∷ w) = rw (ne_eqb (length (c ∷ w)) 0 (λ e. omega arith)) refl
