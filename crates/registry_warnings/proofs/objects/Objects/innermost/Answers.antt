use Rattle.std.proofs.Common.{◌≡◌, rules, length, Some, ◌-◌}
use Rattle.std.specs.Prelude.{slice_get}
use Rattle.registry_warnings.proofs.Last.{last-innermost}
use Rattle.registry_warnings.proofs.objects.Objects.innermost.Goals as goal

pub returns-in-Some : goal.returns-in-Some
returns-in-Some c =
    let open_ones = c.self.inside.open.items in
    let last : Some c.in-Some.names.now ≡ slice_get open_ones (length open_ones - 1) = search rules in
    rw (c.deref-in-Some.ensures.value, ← c.self.view_is) (last-innermost open_ones c.in-Some.names.now last)
