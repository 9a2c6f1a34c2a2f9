use Rattle.std.proofs.Common.{◌≡◌}
use Rattle.metrics.specs.Denied.{denied_once}
use Rattle.metrics.proofs.Each.{front_changed}
use Rattle.metrics.proofs.denials.note_each.Given as goal

-- so many are changed
abbrev pub invariant-loop-denied : goal.invariant-loop-denied
invariant-loop-denied l = l.by ≡ front_changed (denied_once l.hook) l.denied-index l.fn.by
