use Rattle.std.proofs.Common.{◌^◌}
use Rattle.known_bits.proofs.Names.{mul_comm, W64, Mul, word_result_fits}
use Rattle.known_bits.proofs.bits.KnownBits.product.Goals as goal

pub returns-in-Some : goal.returns-in-Some
returns-in-Some c x y hx hy = rw (c.in-Some.ensures.some.1 y hy) (c.raised.ensures x hx)

pub returns-in-Some-exponent : goal.returns-in-Some-exponent
returns-in-Some-exponent c x y hx hy =
    rw (c.in-Some-exponent.ensures.some.1 x hx, mul_comm (2 ^ c.in-Some-exponent.k) y) (c.raised-in-Some-exponent.ensures y hy)

pub returns-in-None-exponent : goal.returns-in-None-exponent
returns-in-None-exponent c x y hx hy = c.any.ensures _ (word_result_fits W64 Mul x y hx.word hy.word)
