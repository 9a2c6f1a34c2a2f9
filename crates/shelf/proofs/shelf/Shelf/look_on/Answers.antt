use Rattle.std.proofs.Common.{◌≡◌, ap, subst, sym}
use Rattle.shelf.specs.Shelved.{due_left, entries_in, entries_of}
use Rattle.shelf.proofs.Timing.{all_last}
use Rattle.shelf.proofs.shelf.Shelf.look_on.Goals as goal

pub returns-clause-looked : goal.returns-clause-looked
returns-clause-looked g c =
    let new = c.go_on.new.self in
    let e = c.go_on.ensures in
    let no = c.if-go_on.false in
    let none : due_left new ≡ 0 = subst (λ s. due_left s ≡ 0) (sym (e.same no)) c.requires.none_due in
    (ap (λ s. entries_in s.items) e.slots, all_last g.R.Lasts.until g.R.Lasts.whose new c.args.moment (e.settled no) none (e.later no))
