-- The batch of the frame at the front.
use Rattle.std.proofs.Common.{◌≡◌, ◌≢◌, ◌↔◌, ℕ, zero, suc, ◌+◌, ◌-◌, ◌^◌, ◌<◌, ◌≤◌, List, [], ◌∷◌, ◌++◌, length, get_or, take, drop, refl, sym, ◌∙◌, ap, subst, arith, append_assoc, length-append, length-take, length-drop, take-append-drop}
use Rattle.std.specs.Int.{w32, from_be_bytes, to_be_bytes}
use Rattle.std.proofs.lemmas.List.{take_at, drop_at, drop_more, drop-drop}
use Rattle.std.proofs.lemmas.Nat.{from_be_bytes-to_be_bytes_4, be_bytes_4}
use Rattle.batch_file.specs.Frames.{digest, seal, sealed, IsFrame}
use Rattle.batch_file.specs.FramesLaws.{length-seal, length-sealed}

-- the four bytes of its length, as a number
abbrev pub size_of : List ℕ → ℕ
size_of bytes = from_be_bytes w32 (get_or bytes 1 0 ∷ get_or bytes 2 0 ∷ get_or bytes 3 0 ∷ get_or bytes 4 0 ∷ [])

pub taken : (m n : ℕ) (l : List ℕ) → m ≡ n → take m l ≡ take n l
taken m n l is = ap (λ (k : ℕ). take k l) is

four : (bytes : List ℕ) → 5 ≤ length bytes → take 4 (drop 1 bytes) ≡ get_or bytes 1 0 ∷ get_or bytes 2 0 ∷ get_or bytes 3 0 ∷ get_or bytes 4 0 ∷ []
four (m ∷ a ∷ b ∷ c ∷ d ∷ rest) long = refl
four _ long = absurd (omega arith)

fits_four : (a b c d : ℕ) → a < 256 → b < 256 → c < 256 → d < 256 → (i : ℕ) → get_or (a ∷ b ∷ c ∷ d ∷ []) i 0 < 256
fits_four a b c d p q r s zero = p
fits_four a b c d p q r s (suc zero) = q
fits_four a b c d p q r s (suc (suc zero)) = r
fits_four a b c d p q r s (suc (suc (suc zero))) = s
fits_four a b c d p q r s (suc (suc (suc (suc i)))) = omega arith

module _ (before bytes : List ℕ) (n : ℕ) (long : 21 ≤ length bytes) (says : n ≡ size_of bytes) (fits : n ≤ length bytes - 21) (small : n < 2 ^ 32) (bytes_fit : (i : ℕ) → get_or bytes i 0 < 256) where
  abbrev batch : List ℕ
  batch = take n (drop 21 bytes)

  len : length batch ≡ n
  len = omega (arith, length-take n (drop 21 bytes), length-drop 21 bytes)

  spelled : take 4 (drop 1 bytes) ≡ to_be_bytes w32 (length batch)
  spelled = four bytes (omega arith) ∙ sym (be_bytes_4 _ (length batch) refl (fits_four _ _ _ _ (bytes_fit 1) (bytes_fit 2) (bytes_fit 3) (bytes_fit 4)) (len ∙ says))

  pub found : (k p q r : ℕ) → get_or bytes 0 0 ≡ 255 → q ≡ n → p ≡ 4 → r ≡ 16 → seal (before ++ (take p (drop 1 bytes) ++ take q (drop 21 bytes))) ≡ take r (drop 5 bytes) → k ≡ 21 + length (take q (drop 21 bytes))
      → IsFrame before (take q (drop 21 bytes)) (drop k bytes) bytes
  found k p q r mark q_is p_is r_is sealed_is k_is =
      let part : take q (drop 21 bytes) ≡ batch = taken q n (drop 21 bytes) q_is in
      let digest_is : take 16 (drop 5 bytes) ≡ digest before batch =
      taken 16 r (drop 5 bytes) (sym r_is)
      ∙ sym sealed_is
      ∙ ap (λ (l : List ℕ). seal (before ++ (l ++ take q (drop 21 bytes)))) (taken p 4 (drop 1 bytes) p_is ∙ spelled)
      ∙ ap (λ (l : List ℕ). seal (before ++ (to_be_bytes w32 (length batch) ++ l))) part in
      let back : drop n (drop 21 bytes) ≡ drop k bytes = drop-drop n 21 bytes ∙ ap (λ (i : ℕ). drop i bytes) (omega (arith, k_is, ap length part, len)) in
      let behind : drop 5 bytes ≡ (digest before batch ++ batch) ++ drop k bytes =
      sym (take-append-drop 16 (drop 5 bytes))
      ∙ ap (λ (l : List ℕ). l ++ drop 16 (drop 5 bytes)) digest_is
      ∙ ap (λ (l : List ℕ). digest before batch ++ l) (drop-drop 16 5 bytes ∙ sym (take-append-drop n (drop 21 bytes)) ∙ ap (λ (l : List ℕ). batch ++ l) back)
      ∙ sym (append_assoc (digest before batch) batch (drop k bytes)) in
      let tail : drop 1 bytes ≡ to_be_bytes w32 (length batch) ++ ((digest before batch ++ batch) ++ drop k bytes) =
      sym (take-append-drop 4 (drop 1 bytes))
      ∙ ap (λ (l : List ℕ). l ++ drop 4 (drop 1 bytes)) spelled
      ∙ ap (λ (l : List ℕ). to_be_bytes w32 (length batch) ++ l) (drop-drop 4 1 bytes ∙ behind) in
      let whole : bytes ≡ 255 ∷ (to_be_bytes w32 (length batch) ++ ((digest before batch ++ batch) ++ drop k bytes)) =
      drop_more bytes 0 0 (omega arith) ∙ ap (λ (m : ℕ). m ∷ drop 1 bytes) mark ∙ ap (λ (l : List ℕ). 255 ∷ l) tail in
      subst (λ (l : List ℕ). IsFrame before l (drop k bytes) bytes) (sym part) (record { short = omega (arith, len); is = whole })

module _ (before batch more bytes : List ℕ) (f : IsFrame before batch more bytes) where
  pub length-framed : length bytes ≡ 21 + length batch + length more
  length-framed = omega (arith, ap length f.is, length-append (sealed before batch) more, length-sealed before batch)

  pub size-framed : size_of bytes ≡ length batch
  size-framed = ap size_of f.is ∙ from_be_bytes-to_be_bytes_4 (length batch) f.short

  pub is_short : length bytes < 21 → ⊥
  is_short short = absurd (omega (arith, length-framed))

  pub is_marked : get_or bytes 0 0 ≡ 255
  is_marked = ap (λ (l : List ℕ). get_or l 0 0) f.is

  pub is_cut : (n : ℕ) → n ≡ size_of bytes → length bytes - 21 < n → ⊥
  is_cut n says cut = absurd (omega (arith, length-framed, size-framed))

  pub is_sealed : (n p q r : ℕ) → n ≡ size_of bytes → q ≡ n → p ≡ 4 → r ≡ 16 → seal (before ++ (take p (drop 1 bytes) ++ take q (drop 21 bytes))) ≡ take r (drop 5 bytes)
  is_sealed n p q r says q_is p_is r_is =
      let size : take p (drop 1 bytes) ≡ to_be_bytes w32 (length batch) = taken p 4 (drop 1 bytes) p_is ∙ ap (λ (l : List ℕ). take 4 (drop 1 l)) f.is in
      let behind : drop 5 bytes ≡ digest before batch ++ (batch ++ more) = ap (λ (l : List ℕ). drop 5 l) f.is ∙ append_assoc (digest before batch) batch more in
      let back : drop 21 bytes ≡ batch ++ more = sym (drop-drop 16 5 bytes) ∙ ap (λ (l : List ℕ). drop 16 l) behind ∙ drop_at (digest before batch) (batch ++ more) 16 (length-seal _) in
      let part : take q (drop 21 bytes) ≡ batch = ap (λ (l : List ℕ). take q l) back ∙ take_at batch more q (sym (q_is ∙ says ∙ size-framed)) in
      ap (λ (l : List ℕ). seal (before ++ (l ++ take q (drop 21 bytes)))) size
      ∙ ap (λ (l : List ℕ). seal (before ++ (to_be_bytes w32 (length batch) ++ l))) part
      ∙ sym (taken r 16 (drop 5 bytes) r_is ∙ ap (λ (l : List ℕ). take 16 l) behind ∙ take_at (digest before batch) (batch ++ more) 16 (length-seal _))
