use Rattle.std.proofs.Common.{◌≡◌, ◌∙◌, length, ap, sym, arith}
use Rattle.shelf.proofs.Seating.{seen_long}
use Rattle.shelf.proofs.slots.Slots.len.Goals as goal

pub returns : goal.returns
returns g c =
    let same : c.len.result ≡ length c.self.inside.full.items = (let is = c.len.ensures in let ok = c.self.inside.full.ok in omega (arith, is, ok)) in
    same ∙ sym (seen_long c.self.inside.full.items c.self.inside.cells.items c.self.invariant) ∙ ap (λ r. length r.items) c.self.view_is
