use Rattle.std.proofs.Common.{◌≡◌, ◌∙◌, Some, ap, sym}
use Rattle.std.specs.Prelude.{nat_eq}
use Rattle.shelf.specs.Shelved.{is_keyed, slot_at}
use Rattle.shelf.proofs.Keyed.{numbers, slot_found}
use Rattle.shelf.proofs.Naming.{keyed_held}
use Rattle.shelf.proofs.rack.Rack.get.Goals as goal

pub at-requires : goal.at-requires
at-requires g c = keyed_held nat_eq c.args.number (slot_at c.args.self.now.slots.items c.in_ok-slot.slot) c.in_ok-slot.ensures.some

pub returns : goal.returns
returns g c =
    let old = c.args.self.now in
    let x = c.in_ok-slot.slot in
    let s = c.at.result.now in
    let at : slot_at old.slots.items x ≡ Some s = sym c.at.ensures in
    sym (slot_found numbers old.slots.items x s c.args.number c.requires.once at (sym (ap (is_keyed nat_eq c.args.number) at) ∙ c.in_ok-slot.ensures.some))
