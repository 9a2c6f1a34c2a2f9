use Rattle.std.proofs.Common.{◌≡◌, ◌∙◌, ap, sym}
use Rattle.shelf.specs.Looking.{is_held}
use Rattle.shelf.specs.Shelved.{slot_at}
use Rattle.shelf.proofs.Seating.{seen_held}
use Rattle.shelf.proofs.slots.Slots.holds.Goals as goal

pub returns : goal.returns
returns g c =
    c.is_full.ensures ∙ sym (seen_held c.self.inside.full.items c.self.inside.cells.items c.args.slot c.self.invariant) ∙ ap (λ r. is_held (slot_at r.items c.args.slot)) c.self.view_is
