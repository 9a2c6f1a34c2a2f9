use Rattle.std.proofs.Common.{◌∙◌, List, ap, length, sym, take}
use Rattle.std.proofs.lemmas.List.{length-map, with_items_is}
use Rattle.metrics.specs.Denied.{Denied, denied_by, denied_once}
use Rattle.metrics.specs.declared.denials.DeniedBy.{DeniedBy}
use Rattle.metrics.proofs.Each.{noted_here, seen}
use Rattle.metrics.proofs.denials.Denials.note.Goals as goal

pub returns-then-has_hook : goal.returns-then-has_hook
returns-then-has_hook c =
    let has = rw (c.deref.ensures.value, c.name.ensures) at c.has_hook.ensures in
    let new = rw (c.name-then-has_hook.ensures, c.deref_mut.ensures.value) at c.note_each.ensures in
    let hook = take c.args.entry.size c.args.entry.name in
    let long = ap length new ∙ length-map c.self.inside.by.items (denied_once hook) ∙ sym c.self.inside.by.ok.0 in
    ap (λ (by : List DeniedBy). seen by c.self.inside.others) (with_items_is c.self.inside.by c.note_each.new.by long)
    ∙ noted_here hook c.self.inside.by.items c.note_each.new.by c.self.inside.others (sym has ∙ c.if-has_hook.true) new
    ∙ ap (λ (d : Denied). denied_by d hook) c.self.view_is
