use Rattle.std.proofs.Common.{◌+◌, ◌∙◌, ap, length}
use Rattle.shelf.specs.Racked.{place_in}
use Rattle.shelf.specs.Shelved.{entries_in}
use Rattle.shelf.proofs.Putting.{blank_entries}
use Rattle.shelf.proofs.Racking.{rack_popped, rack_widened}
use Rattle.shelf.proofs.rack.Rack.free_slot.Goals as goal

pub returns-in-Some-clause-spare : goal.returns-in-Some-clause-spare
returns-in-Some-clause-spare g c =
    let old = c.args.self.now in
    let racked = c.requires.racked in
    let out = c.in-Some.ensures.out (place_in old.lists old.slots.items) racked.named in
    rack_popped old c.pop.new.self c.in-Some.slot racked out.0 c.pop.ensures.shape out.1

pub returns-clause-same : goal.returns-clause-same
returns-clause-same g c = ap entries_in c.widen.ensures.items ∙ blank_entries c.args.self.now.slots.items

pub returns-clause-spare : goal.returns-clause-spare
returns-clause-spare g c =
    let old = c.args.self.now in
    let racked = c.requires.racked in
    let same = c.in_default.ensures.same in
    let names = c.widen-2.new.self in
    let at = c.len-slot.ensures in
    rw (c.widen.ensures.items, at)
    (rack_widened old names racked (c.widen-2.ensures.heads ∙ ap (λ n. n.heads) same) (c.widen-2.ensures.wider ∙ ap (λ n. length n.cells.items + 1) same)
    (c.widen-2.ensures.same (place_in old.lists old.slots.items) (rw same racked.named)))
