use Rattle.known_bits.proofs.Agreeing.{joined_has, joined_least}
use Rattle.known_bits.proofs.domain.KnownBitsDomain.join.Goals as goal

pub returns-clause-both : goal.returns-clause-both
returns-clause-both c = joined_has c.args.a c.args.b c.outside.result c.outside.ensures.mask c.outside.ensures.value

pub returns-clause-least : goal.returns-clause-least
returns-clause-least c = joined_least c.args.a c.args.b c.outside.result c.outside.ensures.mask c.outside.ensures.value
