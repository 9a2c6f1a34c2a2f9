use Rattle.std.proofs.Common.{◌≡◌, ◌<◌, ◌∙◌, Some, length, set, ap, sym, arith}
use Rattle.std.proofs.lemmas.List.{length-set}
use Rattle.shelf.specs.declared.shelf.Slot.{Slot}
use Rattle.shelf.proofs.Seating.{seen_filled, seen_long}
use Rattle.shelf.proofs.slots.Slots.fill.Goals as goal

pub index_mut-requires : goal.index_mut-requires
index_mut-requires g c =
    let fs = c.self.inside.full.items in
    let cs = c.self.inside.cells.items in
    let long = seen_long fs cs c.self.invariant in
    let same = ap (λ r. length r.items) c.self.view_is in
    let both = c.self.invariant in
    let ok = c.self.inside.cells.ok in
    let inside = c.requires in
    omega (arith, long, same, both, ok, inside)

pub index_mut-requires-2 : goal.index_mut-requires-2
index_mut-requires-2 g c =
    let fs = c.self.inside.full.items in
    let cs = c.self.inside.cells.items in
    let long = seen_long fs cs c.self.invariant in
    let same = ap (λ r. length r.items) c.self.view_is in
    let ok = c.self.inside.full.ok in
    let inside = c.requires in
    omega (arith, long, same, ok, inside)

pub invariant_of-self : goal.invariant_of-self
invariant_of-self g c = length-set c.self.inside.full.items c.args.slot _ ∙ c.self.invariant ∙ sym (length-set c.self.inside.cells.items c.args.slot _)

pub returns-clause-items : goal.returns-clause-items
returns-clause-items g c =
    let it : Slot _ _ = record { key = c.args.key; kept = c.args.kept } in
    seen_filled c.self.inside.full.items c.self.inside.cells.items c.args.slot it ∙ ap (λ r. set r.items c.args.slot (Some it)) c.self.view_is

pub returns-clause-room : goal.returns-clause-room
returns-clause-room g c = ap (λ r. r.room) c.self.view_is
