use Rattle.std.proofs.Common.{rules}
use Rattle.daemon.proofs.drawn.Drawn.generator.Goals as goal

pub returns : goal.returns
returns g c = (c.args.self.now.random, record { seed = c.args.self.now.seed; size = search rules; given = c.args.self.now.given; generator_is = c.from_seed.ensures })
