use Rattle.std.proofs.Common.{arith}
use Rattle.std.proofs.lemmas.Nat.{mod_below}
use Rattle.shelf.proofs.rack.Rack.list_of.Goals as goal

pub returns-clause-list : goal.returns-clause-list
returns-clause-list g c = let some = c.requires.some in mod_below c.args.number c.args.self.now.lists (omega (arith, some))
