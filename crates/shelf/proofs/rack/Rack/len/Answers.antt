use Rattle.std.proofs.Common.{◌≤◌, length, arith}
use Rattle.shelf.proofs.Slotting.{few_entries}
use Rattle.shelf.proofs.rack.Rack.len.Goals as goal

pub returns-clause-small : goal.returns-clause-small
returns-clause-small g c =
    let used = c.requires.used_is in
    let cells = c.requires.cells in
    let heads = c.requires.heads in
    let few = c.requires.named.few in
    let fewer = few_entries c.args.self.now.slots.items in
    omega (arith, used, cells, heads, few, fewer)
