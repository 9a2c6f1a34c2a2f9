use Rattle.std.proofs.Common.{◌≡◌, ◌≤ℤ◌, ◌<ℤ◌, pos, FitsSigned, w64, rules, ◌∙◌, arith}
use Rattle.range.proofs.Names.{cast_signed, ints, quot_is, quot_fits, W64, Sdiv, word_result_fits}
use Rattle.range.proofs.Quotients.{quotient_order, quotient_reading}
use Rattle.range.proofs.SignedRanges.{above_least, below_greatest, signed_member}
use Rattle.range.proofs.signed.SRange.quotient.Goals as goal

pub new-requires : goal.new-requires
new-requires c =
    let l = c.least.result in
    let g = c.greatest-then-divisor-greatest.result in
    let d = c.least-divisor.result in
    let least : FitsSigned w64 l = search rules in
    let greatest : FitsSigned w64 g = search rules in
    let by : FitsSigned w64 d = search rules in
    let positive : pos 0 <ℤ d = omega (arith, ints) in
    let order : l ≤ℤ g = rw (c.least.ensures, c.greatest-then-divisor-greatest.ensures) (omega (arith, ints)) in
    rw (quot_is w64 l d least by (quot_fits w64 l d least positive), quot_is w64 g d greatest by (quot_fits w64 g d greatest positive))
    (quotient_order l g d positive order)

pub returns-then-divisor-greatest : goal.returns-then-divisor-greatest
returns-then-divisor-greatest c x y hx hy =
    let l = c.least.result in
    let g = c.greatest-then-divisor-greatest.result in
    let d = c.least-divisor.result in
    let least : FitsSigned w64 l = search rules in
    let greatest : FitsSigned w64 g = search rules in
    let by : FitsSigned w64 d = search rules in
    let positive : pos 0 <ℤ d = omega (arith, ints) in
    let divisor : cast_signed w64 y ≡ d = omega (arith, ints, above_least c.args.b y hy, below_greatest c.args.b y hy) in
    let above : l ≤ℤ cast_signed w64 x = rw c.least.ensures (above_least c.args.a x hx) in
    let below : cast_signed w64 x ≤ℤ g = rw c.greatest-then-divisor-greatest.ensures (below_greatest c.args.a x hx) in
    let is = quotient_reading x y hx.word (rw divisor positive) in
    let from = c.new.ensures.from ∙ quot_is w64 l d least by (quot_fits w64 l d least positive) in
    let to = c.new.ensures.to ∙ quot_is w64 g d greatest by (quot_fits w64 g d greatest positive) in
    signed_member c.new.result _ (word_result_fits W64 Sdiv x y hx.word hy.word)
    (rw (is, divisor, from) (quotient_order l (cast_signed w64 x) d positive above))
    (rw (is, divisor, to) (quotient_order (cast_signed w64 x) g d positive below))
