use Rattle.std.proofs.Common.{◌≡◌, None}
use Rattle.links.proofs.Linked.{IsSetOver, MadeBelow}
use Rattle.links.proofs.link.Links.set_each.Given as goal

abbrev pub invariant-loop-i : goal.invariant-loop-i
invariant-loop-i l = MadeBelow None (IsSetOver l.moved) l.initial.self.each l.self.each l.i × (l.self.any ≡ l.initial.self.any) × (l.self.homes ≡ l.initial.self.homes)
