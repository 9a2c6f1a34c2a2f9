use Rattle.std.proofs.Common.{◌+◌, refl, arith}
use Rattle.chains.specs.Following.{cell_read}
use Rattle.chains.proofs.Popping.{pops_first, pops_none, head_cell, none_given}
use Rattle.chains.proofs.chains.Chains.pop.Goals as goal

pub returns-in_err-first-clause-none : goal.returns-in_err-first-clause-none
returns-in_err-first-clause-none c =
    none_given c.from_residual.result (λ place chained.
    pops_none c.args.self.now place c.args.list c.index.result.now c.number_in.result chained c.requires.list.0 c.index.ensures c.number_in.ensures.none c.number_in.ensures.some c.in_err-first.was)

pub index-requires-2 : goal.index-requires-2
index-requires-2 c =
    let inside = head_cell c.args.self.now c.requires.row.place c.args.list c.index.result.now c.number_in.result c.requires.row.chained c.requires.list.0 c.index.ensures
    c.number_in.ensures.none c.number_in.ensures.some c.in_ok-first.first c.in_ok-first.was in
    let ok = c.args.self.now.cells.ok in
    omega (arith, inside, ok)

pub returns-clause-cell : goal.returns-clause-cell
returns-clause-cell c =
    head_cell c.args.self.now c.requires.row.place c.args.list c.index.result.now c.number_in.result c.requires.row.chained c.requires.list.0 c.index.ensures
    c.number_in.ensures.none c.number_in.ensures.some c.in_ok-first.first c.in_ok-first.was

pub returns-clause-out : goal.returns-clause-out
returns-clause-out c = λ place chained.
    let old = c.args.self.now in
    let x = c.in_ok-first.first in
    let inside = head_cell old place c.args.list c.index.result.now c.number_in.result chained c.requires.list.0 c.index.ensures c.number_in.ensures.none c.number_in.ensures.some x c.in_ok-first.was in
    let read = cell_read old.cells.items (old.heads + x) c.index-2.result.now inside c.index-2.ensures in
    pops_first old place c.args.list c.index.result.now c.number_in.result chained c.requires.list.0 c.index.ensures c.number_in.ensures.none c.number_in.ensures.some _ x c.in_ok-first.was
    (rw read refl) refl
