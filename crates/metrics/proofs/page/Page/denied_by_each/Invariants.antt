use Rattle.std.proofs.Common.{◌≡◌, ◌++◌, take, map}
use Rattle.std.specs.List.{flat_map}
use Rattle.metrics.specs.Denied.{counted_in}
use Rattle.metrics.specs.Text.{counted_line}
use Rattle.metrics.proofs.page.Page.denied_by_each.Given as goal

abbrev pub invariant-loop-denied : goal.invariant-loop-denied
invariant-loop-denied l = l.self.text.items ≡ l.fn.self.text.items ++ flat_map counted_line (map counted_in (take l.denied-index l.by))
