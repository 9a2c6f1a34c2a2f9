use Rattle.std.proofs.Common.{◌≡◌, ◌<◌, ◌+◌, length, refl, ap, arith}
use Rattle.chains.specs.Following.{cell_read}
use Rattle.chains.proofs.Removing.{has_cell, before_cell, removes}
use Rattle.chains.proofs.chains.Chains.remove.Goals as goal

pub index-requires : goal.index-requires
index-requires c =
    let inside = has_cell c.args.self.now c.args.list c.args.number c.requires in
    let ok = c.args.self.now.cells.ok in
    omega (arith, inside, ok)

pub index_mut-requires : goal.index_mut-requires
index_mut-requires c =
    let inside = before_cell c.args.self.now c.args.list c.args.number c.cell_before-cell.result c.requires c.cell_before-cell.ensures in
    let ok = c.args.self.now.cells.ok in
    omega (arith, inside, ok)

pub returns-clause-out : goal.returns-clause-out
returns-clause-out c = λ place chained there.
    let old = c.args.self.now in
    let x = c.args.number in
    let read = cell_read old.cells.items (old.heads + x) c.index.result.now (has_cell old c.args.list x c.requires) c.index.ensures in
    removes old _ place c.args.list x c.cell_before-cell.result chained c.requires.is_list there c.cell_before-cell.ensures (rw read refl) refl
