use Rattle.std.proofs.Common.{◌≡◌, ◌≤◌, ◌∙◌, refl, sym, arith}
use Rattle.shelf.specs.declared.shelf.Shelf.{Shelf}
use Rattle.shelf.proofs.Putting.{begun}
use Rattle.shelf.proofs.shelf.Shelf.new.Goals as goal

pub returns-clause-shelved : goal.returns-clause-shelved
returns-clause-shelved g c =
    let names = c.in_ok-names.ensures in
    let wheel = c.in_ok-wheel.ensures in
    let tally = c.new-4.ensures in
    let slots = c.in_ok-new.ensures in
    let new : Shelf _ = record { slots = c.in_ok-new.field-0; names = c.in_ok-names.names; wheel = c.in_ok-wheel.wheel; tally = c.new-4.result; used = 0; second = c.args.second } in
    begun g.R.Lasts.until g.R.Lasts.whose new slots names.empty wheel.empty (let is = names.heads in let some = c.requires.heads in omega (arith, is, some)) wheel.heads (names.few ∙ sym names.heads) (wheel.few ∙ sym wheel.heads)
    tally.all tally.each refl
