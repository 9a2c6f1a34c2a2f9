use Rattle.std.proofs.Common.{◌≡◌, ◌<◌, ◌∙◌, Some, None, true, length, set, ap, sym, arith}
use Rattle.std.proofs.lemmas.List.{length-set}
use Rattle.shelf.specs.declared.shelf.Slot.{Slot}
use Rattle.shelf.specs.Looking.{is_held}
use Rattle.shelf.specs.Seated.{seen}
use Rattle.shelf.specs.Shelved.{slot_at}
use Rattle.shelf.proofs.Seating.{seen_cleared, seen_inside, seen_there}
use Rattle.shelf.proofs.slots.Slots.clear.Goals as goal

pub index_mut-requires : goal.index_mut-requires
index_mut-requires g c =
    let inside = seen_inside c.self.inside.full.items c.self.inside.cells.items c.args.slot (ap (λ r. is_held (slot_at r.items c.args.slot)) c.self.view_is ∙ c.requires) in
    let ok = c.self.inside.full.ok in
    omega (arith, inside, ok)

pub index_mut-requires-2 : goal.index_mut-requires-2
index_mut-requires-2 g c =
    let inside = seen_inside c.self.inside.full.items c.self.inside.cells.items c.args.slot (ap (λ r. is_held (slot_at r.items c.args.slot)) c.self.view_is ∙ c.requires) in
    let both = c.self.invariant in
    let ok = c.self.inside.cells.ok in
    omega (arith, inside, both, ok)

pub invariant_of-self : goal.invariant_of-self
invariant_of-self g c = length-set c.self.inside.full.items c.args.slot _ ∙ c.self.invariant ∙ sym (length-set c.self.inside.cells.items c.args.slot _)

pub returns-clause-items : goal.returns-clause-items
returns-clause-items g c = seen_cleared c.self.inside.full.items c.self.inside.cells.items c.args.slot _ ∙ ap (λ r. set r.items c.args.slot None) c.self.view_is

pub returns-clause-value : goal.returns-clause-value
returns-clause-value g c = λ s at.
    let fs = c.self.inside.full.items in
    let cs = c.self.inside.cells.items in
    let x = c.args.slot in
    let r = c.index_mut-2.result.now in
    let held : is_held (slot_at (seen fs cs) x) ≡ true = ap (λ v. is_held (slot_at v.items x)) c.self.view_is ∙ c.requires in
    let both : Some r ≡ Some s = ap (λ t. Some t) c.index_mut-2.ensures.value ∙ sym (seen_there fs cs x r held) ∙ ap (λ v. slot_at v.items x) c.self.view_is ∙ at in
    let same : r ≡ s = grind (arith, both) in
    c.replace.ensures.value ∙ ap (λ (t : Slot _ _). t.kept) same

pub returns-clause-room : goal.returns-clause-room
returns-clause-room g c = ap (λ r. r.room) c.self.view_is
