use Rattle.std.proofs.Common.{◌≡◌, ◌≢◌, arith}
use Rattle.std.proofs.lemmas.Bool.Decides.{nat_tests}
use Rattle.chains.specs.Following.{cell_read}
use Rattle.chains.proofs.Walking.{way_begins, way_goes_on, way_shortens, way_ends}
use Rattle.chains.proofs.chains.Chains.cell_before.Goals as goal

pub loop-cell-init : goal.loop-cell-init
loop-cell-init c = way_begins c.args.self.now c.args.list c.args.number c.requires

pub loop-cell-smaller : goal.loop-cell-smaller
loop-cell-smaller c =
    let chains = c.args.self.now in
    let way = c.loop-cell.invariant in
    let one = cell_read chains.cells.items c.loop-cell.cell c.index.result.now way.inside c.index.ensures in
    let two = cell_read chains.cells.items c.loop-cell.cell c.index-in-loop-cell.result.now way.inside c.index-in-loop-cell.ensures in
    let ne : c.index-in-loop-cell.result.now ≢ c.args.number = λ same. absurd (let test = c.loop-cell-test.true in grind (arith, nat_tests, test, one, two, same)) in
    way_shortens chains c.args.list c.args.number c.loop-cell.cell c.index-in-loop-cell.result.now way c.index-in-loop-cell.ensures ne

pub loop-cell-preserved : goal.loop-cell-preserved
loop-cell-preserved c =
    let chains = c.args.self.now in
    let way = c.loop-cell.invariant in
    let one = cell_read chains.cells.items c.loop-cell.cell c.index.result.now way.inside c.index.ensures in
    let two = cell_read chains.cells.items c.loop-cell.cell c.index-in-loop-cell.result.now way.inside c.index-in-loop-cell.ensures in
    let ne : c.index-in-loop-cell.result.now ≢ c.args.number = λ same. absurd (let test = c.loop-cell-test.true in grind (arith, nat_tests, test, one, two, same)) in
    way_goes_on chains c.args.list c.args.number c.loop-cell.cell c.index-in-loop-cell.result.now way c.index-in-loop-cell.ensures ne

pub returns : goal.returns
returns c =
    let is : c.index.result.now ≡ c.args.number = (let test = c.loop-cell-test.false in grind (arith, nat_tests, test)) in
    way_ends c.args.self.now c.args.list c.args.number c.loop-cell.cell c.index.result.now c.loop-cell.invariant c.index.ensures is
