use Rattle.std.proofs.Common.{refl}
use Rattle.chains.proofs.Moving.{chained_same}
use Rattle.chains.proofs.chains.Chains.reserve.Goals as goal

pub returns-clause-same : goal.returns-clause-same
returns-clause-same c = λ place chained. chained_same c.args.self.now _ place c.reserve.ensures.items refl chained
