use Rattle.std.proofs.Common.{◌≢◌, refl, ◌∙◌, arith}
use Rattle.known_bits.proofs.Names.{Sub, Neg, negated_is, unary_result}
use Rattle.known_bits.proofs.Results.{by_whole, cut_has, cut_exact, negated_exact}
use Rattle.known_bits.proofs.Moving.{moved_apart, image_moves}
use Rattle.known_bits.proofs.Witnesses.{moved_image}
use Rattle.known_bits.proofs.bits.KnownBits.image.Goals as goal

pub returns-in-Neg-clause-sound : goal.returns-in-Neg-clause-sound
returns-in-Neg-clause-sound c x h =
    rw (c.in-Neg.is, negated_is c.args.width x, by_whole Sub refl c.args.width 0 x (omega arith) h.word)
    (cut_has c.args.width c.difference.result c.in_width.result _ c.in_width.ensures.value c.in_width.ensures.mask (c.difference.ensures.sound 0 x ((c.exact.ensures.alone 0).1 refl) h))

pub returns-in-Neg-clause-exact : goal.returns-in-Neg-clause-exact
returns-in-Neg-clause-exact c = rw c.in-Neg.is
    (negated_exact c.args.width c.exact.result c.args.a c.in_width.result (λ x h. (c.exact.ensures.alone x).0 h)
    (cut_exact Sub c.args.width c.exact.result c.args.a c.difference.result c.in_width.result c.in_width.ensures.mask (by_whole Sub refl c.args.width) c.difference.ensures.exact))

pub new-requires : goal.new-requires
new-requires c =
    let other : c.args.op ≢ Neg = λ e. grind arith in
    rw (c.unary.ensures, c.unary-in-Swap.ensures) (moved_apart (unary_result c.args.op c.args.width) c.args.a (image_moves c.args.op other c.args.width))

pub returns-in-Swap : goal.returns-in-Swap
returns-in-Swap c =
    let other : c.args.op ≢ Neg = λ e. grind arith in
    let all = moved_image c.args.op c.args.width c.args.a c.new.result (image_moves c.args.op other c.args.width) (c.new.ensures.value ∙ c.unary.ensures) (c.new.ensures.mask ∙ c.unary-in-Swap.ensures) in
    record { sound = all.0; exact = all.1 }
