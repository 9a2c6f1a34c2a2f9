-- Zeros behind the frames of a file.
use Rattle.std.proofs.Common.{◌≡◌, ◌≢◌, ℕ, zero, suc, ◌+◌, ◌-◌, ◌<◌, ◌≤◌, List, [], ◌∷◌, ◌++◌, length, get_or, take, drop, inl, refl, sym, ◌∙◌, ap, subst, arith}
use Rattle.std.proofs.lemmas.List.{length-replicate, drop-replicate}
use Rattle.std.specs.Prelude.{replicate}
use Rattle.batch_file.specs.Frames.{zeros, most_room, before_more, without_zeros, HidesFrame, IsFrame, IsNoFrame, IsTorn}

pub length-zeros : (n : ℕ) → length (zeros n) ≡ n
length-zeros n = length-replicate n 0

-- no frame begins with a zero
pub zero_begins : (last more : List ℕ) → IsNoFrame last (0 ∷ more)
zero_begins last more = λ batch rest f. absurd (omega (arith, ap (λ (l : List ℕ). get_or l 0 0) f.is))

pub zeros_more : (n : ℕ) → zeros (suc n) ≡ 0 ∷ zeros n
zeros_more n = refl

pub zeros_begin : (last : List ℕ) (n : ℕ) → IsNoFrame last (zeros n)
zeros_begin last zero = λ batch rest f. absurd (omega (arith, ap length f.is))
zeros_begin last (suc n) = zero_begins last (zeros n)

pub zeros_hide : (last : List ℕ) (n : ℕ) → HidesFrame last (zeros n) → ⊥
zeros_hide last n h = zeros_begin h.before (n - h.at) h.batch h.more (subst (λ (l : List ℕ). IsFrame h.before h.batch h.more l) (drop-replicate h.at n 0) h.is)

pub zeros_end : (last : List ℕ) (n : ℕ) → 0 < n → n ≤ most_room → IsTorn last (zeros n)
zeros_end last zero some few = absurd (omega arith)
zeros_end last (suc n) some few = record {
  closed = inl (zeros n, refl);
  brief = omega (arith, length-zeros (suc n));
  no_frame = zeros_begin last (suc n);
  plain = zeros_hide last (suc n);
}

-- WITHOUT THE ZEROS AT THE END

pub one_zero_less : (xs : List ℕ) → without_zeros (xs ++ 0 ∷ []) ≡ without_zeros xs
unfolding without_zeros
one_zero_less [] = refl
one_zero_less (x ∷ xs) = ap (λ (l : List ℕ). before_more x l) (one_zero_less xs)

before_some : (byte x : ℕ) (more : List ℕ) → before_more byte (x ∷ more) ≡ byte ∷ x ∷ more
before_some zero x more = refl
before_some (suc byte) x more = refl

before_end : (byte last : ℕ) (more : List ℕ) → before_more byte (more ++ last ∷ []) ≡ byte ∷ (more ++ last ∷ [])
before_end byte last [] = before_some byte last []
before_end byte last (x ∷ more) = before_some byte x (more ++ last ∷ [])

pub ends_so : (xs : List ℕ) (last : ℕ) → last ≢ 0 → without_zeros (xs ++ last ∷ []) ≡ xs ++ last ∷ []
unfolding without_zeros
ends_so [] zero some = absurd (some refl)
ends_so [] (suc last) some = refl
ends_so (x ∷ xs) last some = ap (λ (l : List ℕ). before_more x l) (ends_so xs last some) ∙ before_end x last xs

pub none_left : (bytes : List ℕ) (size : ℕ) → size ≤ 0 → without_zeros (take size bytes) ≡ without_zeros bytes → [] ≡ without_zeros bytes
unfolding without_zeros
none_left bytes zero none same = same
none_left bytes (suc size) none same = absurd (omega arith)
