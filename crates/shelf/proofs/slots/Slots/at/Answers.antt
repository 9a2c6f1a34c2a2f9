use Rattle.std.proofs.Common.{◌≡◌, ◌<◌, ◌∙◌, Some, true, length, ap, sym, arith}
use Rattle.shelf.specs.Looking.{is_held}
use Rattle.shelf.specs.Seated.{seen}
use Rattle.shelf.specs.Shelved.{slot_at}
use Rattle.shelf.proofs.Seating.{seen_inside, seen_there}
use Rattle.shelf.proofs.slots.Slots.at.Goals as goal

pub index-requires : goal.index-requires
index-requires g c =
    let inside = seen_inside c.self.inside.full.items c.self.inside.cells.items c.args.slot (ap (λ r. is_held (slot_at r.items c.args.slot)) c.self.view_is ∙ c.requires) in
    let long = c.self.invariant in
    let ok = c.self.inside.cells.ok in
    omega (arith, inside, long, ok)

pub returns : goal.returns
returns g c =
    let fs = c.self.inside.full.items in
    let cs = c.self.inside.cells.items in
    let x = c.args.slot in
    let held : is_held (slot_at (seen fs cs) x) ≡ true = ap (λ r. is_held (slot_at r.items x)) c.self.view_is ∙ c.requires in
    ap (λ s. Some s) c.index.ensures ∙ sym (seen_there fs cs x c.index.result.now held) ∙ ap (λ r. slot_at r.items x) c.self.view_is
