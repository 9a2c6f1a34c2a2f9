use Rattle.scalar.proofs.scalar.Scalar.signed_result.Goals as goal

pub returns-then-greatest-lt64 : goal.returns-then-greatest-lt64
returns-then-greatest-lt64 c x y hx hy = rw (c.in-Lsh-W64.is-0, c.in-Lsh-W64.is-1) (c.raised.ensures x y hx.half hy.signed)
