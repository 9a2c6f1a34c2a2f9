use Rattle.std.proofs.Common.{◌≡◌, None}
use Rattle.links.proofs.Linked.{IsLeft, MadeBelow}
use Rattle.links.proofs.link.Links.lose_each.Given as goal

abbrev pub invariant-loop-i : goal.invariant-loop-i
invariant-loop-i l = MadeBelow None (IsLeft l.written) l.initial.self.each l.self.each l.i × (l.self.any ≡ l.initial.self.any) × (l.self.homes ≡ l.initial.self.homes)
