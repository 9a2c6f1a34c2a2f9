use Rattle.std.proofs.Common.{sym, ap, ◌∙◌}
use Rattle.std.specs.Int.{bit_at}
use Rattle.known_bits.proofs.Agreeing.{set_below}
use Rattle.known_bits.proofs.Witnesses.{sum_sound, sum_exact}
use Rattle.known_bits.proofs.bits.KnownBits.sum.Goals as goal

pub returns-clause-sound : goal.returns-clause-sound
returns-clause-sound c = sum_sound c.args.a c.args.b c.outside.result c.carries-least.result c.carries-greatest.result c.carries-least.ensures
    (λ k low. rw (c.greatest.ensures, c.greatest-2.ensures) at (c.carries-greatest.ensures k low)) c.outside.ensures.mask c.outside.ensures.value

pub returns-clause-exact : goal.returns-clause-exact
returns-clause-exact c k set =
    let low = set_below c.outside.result.mask k c.outside.result.mask_fits set in
    sum_exact c.args.a c.args.b c.carries-least.result c.carries-greatest.result k low (c.carries-least.ensures k low)
    (rw (c.greatest.ensures, c.greatest-2.ensures) at (c.carries-greatest.ensures k low)) (ap (λ m. bit_at m k) (sym c.outside.ensures.mask) ∙ set)
