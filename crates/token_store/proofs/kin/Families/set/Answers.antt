use Rattle.std.proofs.Common.{◌≡◌, sym, arith}
use Rattle.shelf.specs.Racked.{rack_entries}
use Rattle.token_store.proofs.Keeping.{set_found}
use Rattle.token_store.proofs.kin.Families.set.Goals as goal

pub returns-clause-here : goal.returns-clause-here
returns-clause-here c =
    let view = c.self.view_is in
    let some = c.in-Some.is in
    let same : c.args.self.now.entries ≡ rack_entries c.in-Some.rack = grind (arith, view, some) in
    rw same (set_found (rack_entries c.in-Some.rack) (rack_entries c.set.new.self) c.args.number c.args.shared c.set.ensures.set).0

pub returns-clause-others : goal.returns-clause-others
returns-clause-others c =
    let view = c.self.view_is in
    let some = c.in-Some.is in
    let same : c.args.self.now.entries ≡ rack_entries c.in-Some.rack = grind (arith, view, some) in
    rw same (set_found (rack_entries c.in-Some.rack) (rack_entries c.set.new.self) c.args.number c.args.shared c.set.ensures.set).1
