use Rattle.std.proofs.Common.{◌≤◌, ◌+◌, length, arith}
use Rattle.std.specs.Map.{values_of}
use Rattle.std.proofs.lemmas.Bool.Decides.{nat_tests}
use Rattle.std.proofs.lemmas.List.Sums.{count_by-le-length}
use Rattle.std.proofs.lemmas.Map.Entries.{length-values_of}
use Rattle.shelf.specs.Shelved.{lasts, entries_of}
use Rattle.shelf.proofs.Ahead.{most_all}
use Rattle.shelf.proofs.shelf.Shelf.most.Goals as goal

pub returns-then-is_past : goal.returns-then-is_past
returns-then-is_past g c =
    let old = c.args.self.now in
    let used = c.requires.shelved.used_is in
    let few = count_by-le-length (lasts g.R.Lasts.until c.args.moment) (values_of (entries_of old)) in
    let long = length-values_of (entries_of old) in
    omega (arith, used, few, long)

pub returns : goal.returns
returns g c =
    let old = c.args.self.now in
    let is = c.is_past.ensures in
    let not_past = c.if-is_past.false in
    let ahead : old.second ≤ c.args.moment + 1 = grind (arith, nat_tests, is, not_past) in
    most_all g.R.Lasts.until g.R.Lasts.whose old c.requires c.args.moment ahead
