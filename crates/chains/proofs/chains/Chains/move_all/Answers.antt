use Rattle.std.proofs.Common.{◌≡◌, refl, arith}
use Rattle.chains.specs.Chained.{cell_at}
use Rattle.chains.specs.Following.{cell_read}
use Rattle.chains.proofs.Moving.{chained_moved}
use Rattle.chains.proofs.chains.Chains.move_all.Goals as goal

pub returns-clause-moved : goal.returns-clause-moved
returns-clause-moved c = λ place chained never.
    let cells = c.args.self.now.cells.items in
    let within = chained.inside in
    let is_from = c.requires.from.0 in
    let read : c.index.result.now ≡ cell_at cells c.args.from = cell_read cells c.args.from c.index.result.now (omega (arith, within, is_from)) c.index.ensures in
    chained_moved c.args.self.now _ place c.args.from c.args.to chained is_from c.requires.to.0 c.requires.differ never (rw read refl) refl
