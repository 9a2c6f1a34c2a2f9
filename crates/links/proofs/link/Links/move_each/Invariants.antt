use Rattle.std.proofs.Common.{◌≡◌, None}
use Rattle.links.proofs.Linked.{IsMovedFrom, MadeBelow}
use Rattle.links.proofs.link.Links.move_each.Given as goal

abbrev pub invariant-loop-i : goal.invariant-loop-i
invariant-loop-i l = MadeBelow None (IsMovedFrom l.dst l.by) l.initial.self.each l.self.each l.i × (l.self.any ≡ l.initial.self.any)
