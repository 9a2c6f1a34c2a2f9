use Rattle.std.proofs.Common.{◌++◌, ◌∷◌, ◌∙◌, [], None, ap}
use Rattle.shelf.proofs.Seating.{seen_more}
use Rattle.shelf.proofs.slots.Slots.widen.Goals as goal

pub returns-clause-items : goal.returns-clause-items
returns-clause-items g c =
    rw (c.in-Ok.ensures.items, c.in-Ok-push.ensures.items) (seen_more c.self.inside.full.items c.self.inside.cells.items _ c.self.invariant ∙ ap (λ r. r.items ++ None ∷ []) c.self.view_is)
