use Rattle.known_bits.proofs.Witnesses.{difference_sound, difference_exact}
use Rattle.known_bits.proofs.bits.KnownBits.difference.Goals as goal

pub returns-clause-sound : goal.returns-clause-sound
returns-clause-sound c = difference_sound c.args.a c.args.b c.complement.result c.sum.result c.complement-2.result c.complement.ensures.has c.complement-2.ensures.has c.sum.ensures.sound

pub returns-clause-exact : goal.returns-clause-exact
returns-clause-exact c = difference_exact c.args.a c.args.b c.complement.result c.sum.result c.complement-2.result c.complement.ensures.has c.complement-2.ensures.mask c.sum.ensures.exact
