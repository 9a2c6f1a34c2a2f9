use Rattle.scalar.proofs.Same.{kept_same}
use Rattle.scalar.proofs.scalar.Scalar.exchanged.Goals as goal

pub returns : goal.returns
returns c x = rw c.unwrap_or.ensures (kept_same c.args.self c.exchange.result c.exchange.ensures x)
