use Rattle.std.proofs.Common.{◌≡◌, ◌∙◌, true, ap, sym}
use Rattle.shelf.specs.Looking.{is_held}
use Rattle.shelf.specs.Shelved.{slot_at}
use Rattle.shelf.proofs.Given.{held_slot}
use Rattle.shelf.proofs.shelf.Shelf.first_due.Goals as goal

pub returns-then-is_held-clause-some : goal.returns-then-is_held-clause-some
returns-then-is_held-clause-some g c =
    let x = c.in-Some.slot in
    let is : is_held (slot_at c.look_due.new.self.slots.items x) ≡ true = sym c.is_held.ensures ∙ c.if-is_held.true in
    let held = held_slot (slot_at c.look_due.new.self.slots.items x) is in
    (c.in-Some.ensures.some (ap (λ s. is_held (slot_at s.items x)) (sym c.look_due.ensures.slots) ∙ is), record { slot = held.0; at = held.1 })
