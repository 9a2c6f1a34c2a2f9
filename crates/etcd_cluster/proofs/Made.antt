-- What changes make of the bytes of a list.
use Rattle.std.proofs.Common.{◌≡◌, ◌<◌, ◌≤◌, ◌+◌, ◌++◌, ◌∙◌, ℕ, zero, suc, List, [], ◌∷◌, length, refl, sym, ap, subst, append_assoc, append-nil, length-append, arith}
use Rattle.std.specs.Prelude.{Option, Some, take, unwrap_or}
use Rattle.etcd_cluster.specs.Bytes.{HasBytes, Make, bytes_of, laid, none, one_more}
use Rattle.etcd_cluster.specs.Stands.{Stand}

-- the same pieces up to there make the same bytes
pub made_again : (pieces others : ℕ → Option (List ℕ)) (at : ℕ) (bytes : List ℕ) → ((p : ℕ) → p < at + length bytes → others p ≡ pieces p)
    → Make pieces at bytes → Make others at bytes
made_again pieces others at bytes same (none _) = none at
made_again pieces others at bytes same (one_more _ piece rest is long later) =
    let whole = length-append piece rest in
    one_more at piece rest (same at (omega (arith, whole, long)) ∙ is) long
    (made_again pieces others (at + length piece) rest (λ p below. same p (omega (arith, below, whole))) later)

-- a piece more behind the last one
pub made_longer : (pieces : ℕ → Option (List ℕ)) (at : ℕ) (bytes piece : List ℕ) → pieces (at + length bytes) ≡ Some piece → 0 < length piece
    → Make pieces at bytes → Make pieces at (bytes ++ piece)
made_longer pieces at bytes piece is long (none _) =
    let there : at + length {A = ℕ} [] ≡ at = omega arith in
    subst (λ (b : List ℕ). Make pieces at b) (append-nil piece) (one_more at piece [] (ap pieces (sym there) ∙ is) long (none (at + length piece)))
made_longer pieces at bytes piece is long (one_more _ first rest first_is first_long later) =
    let whole = length-append first rest in
    let there : at + length first + length rest ≡ at + length (first ++ rest) = omega (arith, whole) in
    subst (λ (b : List ℕ). Make pieces at b) (sym (append_assoc first rest piece))
    (one_more at first (rest ++ piece) first_is first_long (made_longer pieces (at + length first) rest piece (ap pieces there ∙ is) long later))

-- the pieces make one list of so many bytes
pub made_alike : (pieces : ℕ → Option (List ℕ)) (at : ℕ) (bytes others : List ℕ) → length bytes ≡ length others → Make pieces at bytes → Make pieces at others → bytes ≡ others
made_alike pieces at bytes others same (none _) (none _) = refl
made_alike pieces at bytes others same (none _) (one_more _ piece rest is long later) =
    let whole = length-append piece rest in absurd (omega (arith, same, whole, long))
made_alike pieces at bytes others same (one_more _ piece rest is long later) (none _) =
    let whole = length-append piece rest in absurd (omega (arith, same, whole, long))
made_alike pieces at bytes others same (one_more _ piece rest is long later) (one_more _ other more other_is other_long other_later) =
    let piece_is : piece ≡ other = some_alike piece other (sym is ∙ other_is) in
    let lengths : length rest ≡ length more =
    let a = length-append piece rest in let b = length-append other more in let c = ap length piece_is in omega (arith, same, a, b, c) in
    let there : at + length other ≡ at + length piece = ap (λ (b : List ℕ). at + length b) (sym piece_is) in
    let rest_is : rest ≡ more = made_alike pieces (at + length piece) rest more lengths later (subst (λ (p : ℕ). Make pieces p more) there other_later) in
    ap (λ (b : List ℕ). b ++ rest) piece_is ∙ ap (λ (b : List ℕ). other ++ b) rest_is
  where
    some_alike : (a b : List ℕ) → Some a ≡ Some b → a ≡ b
    some_alike a b is = cc

-- they are what so many pieces make, or more of them
pub laid_made : (pieces : ℕ → Option (List ℕ)) (n at : ℕ) (bytes : List ℕ) → length bytes ≤ n → Make pieces at bytes → take (length bytes) (laid n pieces at) ≡ bytes
unfolding laid
laid_made pieces n at bytes enough (none _) = refl
laid_made pieces zero at bytes enough (one_more _ piece rest is long later) =
    let whole = length-append piece rest in absurd (omega (arith, enough, whole, long))
laid_made pieces (suc n) at bytes enough (one_more _ piece rest is long later) =
    let whole = length-append piece rest in
    let more = laid_made pieces n (at + length piece) rest (omega (arith, enough, whole, long)) later in
    subst (λ (o : Option (List ℕ)). take (length (piece ++ rest)) (unwrap_or o [] ++ laid n pieces (at + length (unwrap_or o []))) ≡ piece ++ rest) (sym is)
    (take_behind piece rest (laid n pieces (at + length piece)) ∙ ap (λ (b : List ℕ). piece ++ b) more)
  where
    take_behind : (front rest more : List ℕ) → take (length (front ++ rest)) (front ++ more) ≡ front ++ take (length rest) more
    take_behind [] rest more = refl
    take_behind (b ∷ front) rest more = ap (λ (bs : List ℕ). b ∷ bs) (take_behind front rest more)

-- so a list that has these bytes has no others
pub bytes_made : (stand : Stand) (bytes : List ℕ) → HasBytes stand bytes → bytes_of stand ≡ bytes
bytes_made stand bytes has =
    subst (λ (n : ℕ). take n (laid n (stand.pieces stand.head.generation) 0) ≡ bytes) (sym has.1)
    (laid_made (stand.pieces stand.head.generation) (length bytes) 0 bytes (omega arith) has.0)
