use Rattle.std.proofs.Common.{◌≡◌, ◌<ℤ◌, ◌≤ℤ◌, ◌-ℤ◌, pos, FitsSigned, w64, ◌∙◌, rules, arith}
use Rattle.range.proofs.Names.{cast_signed, int_max, int_min, ints, clamps, to_z-of_z, W64, Smod, word_result_fits, greatest_of, least_of}
use Rattle.range.proofs.Quotients.{ends_fit, within_ends, remainder_is, remainder_same, remainder_reading}
use Rattle.range.proofs.SignedRanges.{above_least, below_greatest, signed_member}
use Rattle.range.proofs.signed.SRange.remainder.Goals as goal

pub new-requires : goal.new-requires
new-requires c =
    rw (to_z-of_z w64 c.max-least.result (search rules), to_z-of_z w64 c.min-greatest.result (search rules)) (omega (arith, ints, clamps))

pub returns-then-high-divisor : goal.returns-then-high-divisor
returns-then-high-divisor c x y hx hy =
    let d = c.least-divisor.result in
    let divisor : cast_signed w64 y ≡ d = omega (arith, ints, above_least c.args.b y hy, below_greatest c.args.b y hy) in
    let positive : pos 0 <ℤ cast_signed w64 y = rw divisor (omega (arith, ints)) in
    let is = remainder_reading x y hx.word hy.word positive in
    let above = above_least c.args.a x hx in
    let below = below_greatest c.args.a x hx in
    let same = remainder_same (cast_signed w64 x) (cast_signed w64 y) (omega (arith, ints)) (omega (arith, ints)) in
    signed_member c.args.a _ (word_result_fits W64 Smod x y hx.word hy.word) (rw (is, same) above) (rw (is, same) below)

pub returns-else-divisor-low : goal.returns-else-divisor-low
returns-else-divisor-low c x y hx hy =
    let l = c.least-low.result in
    let d = c.least-divisor.result in
    let r = c.new.result in
    let divisor : cast_signed w64 y ≡ d = omega (arith, ints, above_least c.args.b y hy, below_greatest c.args.b y hy) in
    let positive : pos 0 <ℤ cast_signed w64 y = rw divisor (omega (arith, ints)) in
    let is = remainder_reading x y hx.word hy.word positive in
    let negative : l ≤ℤ pos 0 = omega (arith, ints) in
    let least : l ≤ℤ cast_signed w64 x = rw c.least-low.ensures (above_least c.args.a x hx) in
    let greatest : cast_signed w64 x ≤ℤ c.greatest-high.result = rw c.greatest-high.ensures (below_greatest c.args.a x hx) in
    let high : cast_signed w64 x ≤ℤ c.max.result = omega (arith, ints, clamps) in
    let natural : pos 0 ≤ℤ c.max.result = omega (arith, ints, clamps) in
    let rest = remainder_is l c.max.result (cast_signed w64 x) (cast_signed w64 y) positive least negative high natural in
    let by : FitsSigned w64 d = search rules in
    let ends = ends_fit d by (omega (arith, ints)) in
    let from : least_of r ≡ int_max l (pos 1 -ℤ d) = c.new.ensures.from ∙ to_z-of_z w64 c.max-least.result (search rules)
    ∙ rw (to_z-of_z w64 l (search rules), to_z-of_z w64 d by, to_z-of_z w64 (pos 1 -ℤ d) ends.0) at c.max-least.ensures.value in
    let to : greatest_of r ≡ int_min c.max.result (d -ℤ pos 1) = c.new.ensures.to ∙ to_z-of_z w64 c.min-greatest.result (search rules)
    ∙ rw (to_z-of_z w64 c.max.result (search rules), to_z-of_z w64 d by, to_z-of_z w64 (d -ℤ pos 1) ends.1) at c.min-greatest.ensures.value in
    let within = within_ends l c.max.result d _ (rw divisor at rest) in
    signed_member r _ (word_result_fits W64 Smod x y hx.word hy.word) (rw (is, divisor, from) within.0) (rw (is, divisor, to) within.1)
