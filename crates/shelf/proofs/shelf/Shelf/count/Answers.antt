use Rattle.std.proofs.Common.{◌≡◌, ◌+◌, ◌∙◌, arith}
use Rattle.std.proofs.lemmas.Bool.Decides.{nat_tests}
use Rattle.shelf.specs.Shelved.{pending_left}
use Rattle.shelf.proofs.Slotting.{count_slots}
use Rattle.shelf.proofs.Ahead.{count_all}
use Rattle.shelf.proofs.shelf.Shelf.count.Goals as goal

pub returns-then-is_noticed : goal.returns-then-is_noticed
returns-then-is_noticed g c =
    let old = c.args.self.now in
    let is = c.is_noticed.ensures in
    let yes = c.if-is_noticed.true in
    let noticed : old.second ≡ c.args.moment + 1 = grind (arith, nat_tests, is, yes) in
    let none : pending_left old ≡ 0 = grind (arith, nat_tests, is, yes) in
    count_all g.R.Lasts.until g.R.Lasts.whose old (record { stands = c.requires; none = none }) c.args.moment noticed

pub returns : goal.returns
returns g c = c.count_in.ensures ∙ count_slots _ c.args.self.now.slots.items
