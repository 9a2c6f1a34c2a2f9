use Rattle.std.proofs.Common.{◌≡◌, refl, arith}
use Rattle.chains.specs.Chained.{cell_at}
use Rattle.chains.specs.Following.{cell_read}
use Rattle.chains.proofs.Moving.{chained_pushed}
use Rattle.chains.proofs.chains.Chains.push.Goals as goal

pub returns-clause-put : goal.returns-clause-put
returns-clause-put c = λ place chained none_yet.
    let cells = c.args.self.now.cells.items in
    let within = chained.inside in
    let is_list = c.requires.list.0 in
    let read : c.index.result.now ≡ cell_at cells c.args.list = cell_read cells c.args.list c.index.result.now (omega (arith, within, is_list)) c.index.ensures in
    chained_pushed c.args.self.now _ place c.args.list c.args.number chained is_list c.requires.cell none_yet (rw read refl) refl
