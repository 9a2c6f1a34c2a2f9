use Rattle.std.proofs.Common.{◌<◌, length, refl, arith}
use Rattle.chains.specs.Chained.{none}
use Rattle.chains.proofs.Moving.{chained_wider}
use Rattle.chains.proofs.chains.Chains.widen.Goals as goal

pub returns-clause-same : goal.returns-clause-same
returns-clause-same c = λ place chained.
    let old = c.args.self.now in
    let few : length old.cells.items < none = (let some = c.requires in let ok = old.cells.ok in omega (arith, some, ok)) in
    chained_wider old _ place chained c.in-Ok.ensures.items refl few
