use Rattle.std.proofs.Common.{◌≡◌, sym, ap, ◌∙◌, ◌/◌, ◌^◌}
use Rattle.known_bits.proofs.Names.{W64, Div, word_result_fits, div-zero}
use Rattle.known_bits.proofs.Results.{member_of_zero}
use Rattle.known_bits.proofs.Moving.{moved_apart, moved_agrees, down_moves}
use Rattle.known_bits.proofs.bits.KnownBits.quotient.Goals as goal

pub new-requires : goal.new-requires
new-requires c = moved_apart (λ n. n / 2 ^ c.in-Some.k) c.args.a (down_moves c.in-Some.k)

pub returns-in-Some : goal.returns-in-Some
returns-in-Some c x y hx hy = rw (c.new.ensures.value, c.new.ensures.mask, c.in-Some.ensures.some.1 y hy)
    (moved_agrees (λ n. n / 2 ^ c.in-Some.k) c.args.a x (down_moves c.in-Some.k) hx)

pub returns-in-None : goal.returns-in-None
returns-in-None c x y hx hy = c.any.ensures _ (word_result_fits W64 Div x y hx.word hy.word)

pub returns-then-greatest-eq0 : goal.returns-then-greatest-eq0
returns-then-greatest-eq0 c x y hx hy =
    let zero_right : y ≡ 0 = member_of_zero c.args.b y (sym c.greatest.ensures ∙ c.if-greatest-eq0.true) hy in
    (c.exact.ensures.alone _).1 (ap (λ n. x / n) zero_right ∙ div-zero x)
