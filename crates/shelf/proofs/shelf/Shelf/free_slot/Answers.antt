use Rattle.std.proofs.Common.{◌≡◌, ◌+◌, ◌∙◌, Some, ap, length, refl, subst, sym, arith}
use Rattle.chains.specs.Chained.{Chained}
use Rattle.shelf.specs.Shelved.{Stands, entries_in, name_place, slot_at}
use Rattle.shelf.proofs.Putting.{blank_entries, popped_free, widened}
use Rattle.shelf.proofs.shelf.Shelf.free_slot.Goals as goal

pub returns-in-Some-clause-loose : goal.returns-in-Some-clause-loose
returns-in-Some-clause-loose g c =
    let stands = c.requires.shelved in
    let out = c.in-Some.ensures.out stands.timer stands.shelved.timed in
    popped_free g.R.Lasts.until g.R.Lasts.whose c.args.self.now _ c.in-Some.slot stands out.0 refl refl refl refl refl c.pop.ensures.shape out.1

pub returns-clause-same : goal.returns-clause-same
returns-clause-same g c = ap entries_in c.widen.ensures.items ∙ blank_entries c.args.self.now.slots.items

pub returns-clause-loose : goal.returns-clause-loose
returns-clause-loose g c =
    let old = c.args.self.now in
    let stands = c.requires.shelved in
    let new = record old { slots = c.widen.new.self; names = c.widen-2.new.self; wheel = c.widen-3.new.self } in
    let same = c.in_default.ensures.same in
    let heads = c.widen-3.ensures.heads ∙ ap (λ w. w.heads) same in
    let cells = c.widen-3.ensures.wider ∙ ap (λ w. length w.cells.items + 1) same in
    let timed = c.widen-3.ensures.same stands.timer (subst (λ w. Chained w stands.timer) (sym same) stands.shelved.timed) in
    let named = c.widen-2.ensures.same (λ y. name_place old.names.heads (slot_at old.slots.items y)) stands.shelved.named in
    subst (λ n. Stands g.R.Lasts.until g.R.Lasts.whose new (Some n)) (sym c.len-slot.ensures)
    (widened g.R.Lasts.until g.R.Lasts.whose old new stands c.widen.ensures.items refl refl refl c.widen-2.ensures.heads heads c.widen-2.ensures.wider cells named timed)
