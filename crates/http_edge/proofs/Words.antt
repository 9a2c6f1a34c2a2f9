-- The words of a generator, one after another.
use Rattle.std.proofs.Common.{◌≡◌, ℕ, zero, suc, ◌+◌, ◌%◌, ◌^◌, ◌<◌, List, [], refl, ap, ◌∙◌, arith}
use Rattle.std.proofs.Math.Nat.{mod-add-mod, mod-eq_of_lt}
use Rattle.std.specs.Int.{w32, to_le_bytes}
use Rattle.rand_core.specs.Steps.{word_bytes, fill_via_u32}
use Rattle.rand_chacha.specs.ChaCha.{ChaCha, next_word}
use Rattle.http_edge.specs.Chance.{bytes_from, next_draws, moved}

-- one move after another
pub moved_on : (g : ChaCha) (m n k : ℕ) → m + n ≡ k → moved (moved g m) n ≡ moved g k
moved_on g m n k is =
    let e : g.word_pos + m + n ≡ g.word_pos + k = omega (arith, is) in
    ap (λ p. record g { word_pos = p }) (mod-add-mod (g.word_pos + m) (2 ^ 68) n ∙ ap (λ p. p % 2 ^ 68) e)

pub words_are : (g : ChaCha) (i n : ℕ) → word_bytes (to_le_bytes w32) (next_word 10) n (moved g i) ≡ (bytes_from g i n, moved g (i + n))
unfolding word_bytes
words_are g i zero = let e : i ≡ i + 0 = omega arith in ap (λ n. ([], moved g n)) e
words_are g i (suc n) = rw (words_are g i n) (ap (λ h. (bytes_from g i (suc n), h)) (moved_on g (i + n) 1 (i + suc n) (omega arith)))

-- the bytes of eight words, and of eight more
pub drawn : (g h k : ChaCha) (first second : List ℕ) → g.word_pos < 2 ^ 68
    → (first, h) ≡ fill_via_u32 (next_word 10) 32 g → (second, k) ≡ fill_via_u32 (next_word 10) 32 h
    → (record { first = first; second = second } ≡ next_draws g) × (k ≡ moved g 16)
unfolding word_bytes
drawn g h k first second small one two =
    let here : (g.word_pos + 0) % 2 ^ 68 ≡ g.word_pos = (let e : g.word_pos + 0 ≡ g.word_pos = omega arith in rw e (mod-eq_of_lt small)) in
    let nowhere : moved g 0 ≡ g = ap (λ p. record g { word_pos = p }) here in
    let e = rw (← nowhere) at one ∙ words_are g 0 8 in
    let h_is : h ≡ moved g 8 = ap (λ p. p.1) e in
    let f = rw h_is at two ∙ words_are g 8 8 in
    (rw (ap (λ p. p.0) e, ap (λ p. p.0) f) refl, ap (λ p. p.1) f)
