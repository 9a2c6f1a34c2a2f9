use Rattle.std.proofs.Common.{◌≤◌, length, arith}
use Rattle.shelf.proofs.Slotting.{few_entries}
use Rattle.shelf.proofs.shelf.Shelf.len.Goals as goal

pub returns-clause-small : goal.returns-clause-small
returns-clause-small g c =
    let shelved = c.requires.shelved in
    let used = shelved.used_is in
    let cells = shelved.time_cells in
    let heads = shelved.all in
    let few = shelved.timed.few in
    let fewer = few_entries c.args.self.now.slots.items in
    omega (arith, used, cells, heads, few, fewer)
