use Rattle.std.proofs.Common.{◌+◌, subst, arith}
use Rattle.chains.specs.Chained.{Follows}
use Rattle.chains.specs.Following.{cell_read, first_told, follows_from}
use Rattle.chains.proofs.chains.Chains.behind.Goals as goal

pub returns : goal.returns
returns c = λ place chained list front rest is_list split.
    let cells = c.args.self.now.cells.items in
    let heads = c.args.self.now.heads in
    let x = c.args.number in
    let whole = subst (Follows cells heads list) split (chained.follows list is_list) in
    let both = follows_from cells heads list front x rest whole in
    let read = cell_read cells (heads + x) c.index.result.now both.0 c.index.ensures in
    first_told cells heads (heads + x) rest c.number_in.result chained.few both.1 (rw read at c.number_in.ensures.none) (rw read at c.number_in.ensures.some)
