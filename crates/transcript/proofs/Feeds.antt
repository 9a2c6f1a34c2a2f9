-- A text without its last line feed.
use Rattle.std.proofs.Common.{◌≡◌, ◌≢◌, ◌<◌, ◌-◌, ◌+◌, ◌==◌, slice_index, ℕ, List, [], ◌∷◌, ◌++◌, Bool, true, false, Option, Some, None, MatchOption, Bor, length, take, get_or, nat_lt, refl, sym, ◌∙◌, subst, arith}
use Rattle.transcript.proofs.Names.{length-append, nat_tests, ends_with_byte, strip_last, unwrap_or}
use Rattle.std.proofs.Math.Seq.{get_or-append_seam, take-append_seam}
use Rattle.std.proofs.lemmas.Bool.{and_parts}
use Rattle.std.proofs.lemmas.List.{take_all, take_more}

stripped : (xs : List ℕ) → strip_last 10 (xs ++ 10 ∷ []) ≡ xs
stripped xs =
    let len : length (xs ++ 10 ∷ []) ≡ length xs + 1 = length-append xs (10 ∷ []) in
    let less : length (xs ++ 10 ∷ []) - 1 ≡ length xs = omega arith in
    let last : get_or (xs ++ 10 ∷ []) (length xs) 0 ≡ 10 = get_or-append_seam xs 10 [] 0 in
    let front : take (length xs) (xs ++ 10 ∷ []) ≡ xs = take-append_seam xs (10 ∷ []) in
    grind (arith, nat_tests)

not_stripped : (xs : List ℕ) (ends : Bool) → ends_with_byte 10 xs ≡ ends → ((front : List ℕ) → xs ≢ front ++ 10 ∷ []) → xs ≡ strip_last 10 xs
not_stripped xs false e none = rw e refl
not_stripped xs true e none =
    let parts = and_parts (nat_lt 0 (length xs)) (slice_index xs (length xs - 1) == 10) e in
    let some : 0 < length xs = grind (arith, nat_tests) in
    let last : get_or xs (length xs - 1) 0 ≡ 10 = grind (arith, nat_tests) in
    let cut : xs ≡ take (length xs - 1) xs ++ get_or xs (length xs - 1) 0 ∷ [] =
    sym (take_all (length xs - 1 + 1) xs (omega arith)) ∙ take_more xs (length xs - 1) 0 (omega arith) in
    absurd (none (take (length xs - 1) xs) (rw last at cut))

pub without_feed : (r : Option (Bor (List ℕ))) (text : Bor (List ℕ))
    → MatchOption r ((front : List ℕ) → text.now ≢ front ++ 10 ∷ []) (λ x. text.now ≡ x.now ++ 10 ∷ [])
    → (unwrap_or r text).now ≡ strip_last 10 text.now
without_feed (Some x) text h = sym (subst (λ (t : List ℕ). strip_last 10 t ≡ x.now) (sym h) (stripped x.now))
without_feed None text h = not_stripped text.now _ refl h
