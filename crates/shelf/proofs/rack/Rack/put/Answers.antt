use Rattle.std.proofs.Common.{◌≡◌, ◌∙◌, ap}
use Rattle.std.specs.Prelude.{nat_eq}
use Rattle.std.specs.Map.{lookup}
use Rattle.shelf.specs.Racked.{rack_entries}
use Rattle.shelf.proofs.Keeping.{found_in_place, put_in_place, untaken}
use Rattle.shelf.proofs.Keyed.{numbers}
use Rattle.shelf.proofs.rack.Rack.put.Goals as goal

pub fill-requires-clause-new : goal.fill-requires-clause-new
fill-requires-clause-new g c =
    let e = c.take-was.ensures in
    ap (λ es. lookup (nat_eq c.args.number) es) c.free_slot-slot.ensures.same
    ∙ untaken numbers (rack_entries c.args.self.now) (rack_entries c.take-was.new.self) c.args.number c.take-was.result c.requires.racked.once (e.some, e.none)

pub returns-clause-puts : goal.returns-clause-puts
returns-clause-puts g c =
    let e = c.take-was.ensures in
    put_in_place numbers (rack_entries c.args.self.now) (rack_entries c.take-was.new.self) (rack_entries c.fill.new.self) c.args.number c.args.kept c.take-was.result c.fill.ensures.racked.once (e.some, e.none)
    (rw c.free_slot-slot.ensures.same at c.fill.ensures.put)

pub returns-clause-found : goal.returns-clause-found
returns-clause-found g c =
    let e = c.take-was.ensures in
    found_in_place numbers (rack_entries c.args.self.now) (rack_entries c.take-was.new.self) (rack_entries c.fill.new.self) c.args.number c.args.kept c.take-was.result c.requires.racked.once (e.some, e.none)
    (rw c.free_slot-slot.ensures.same at c.fill.ensures.found)
