use Rattle.std.proofs.Common.{◌≡◌, ◌%◌, ◌^◌, arith}
use Rattle.range.proofs.half.HalfRange.words_within.Goals as goal

pub returns-then-greatest-lt4294967296 : goal.returns-then-greatest-lt4294967296
returns-then-greatest-lt4294967296 c x hx h =
    let small : x % 2 ^ 32 ≡ x = omega arith in
    rw small at (c.words.ensures.has x h)
