use Rattle.std.proofs.Common.{◌≡◌, None}
use Rattle.links.proofs.Linked.{IsJoinedWith, MadeBelow}
use Rattle.links.proofs.link.Links.join_each.Given as goal

abbrev pub invariant-loop-i : goal.invariant-loop-i
invariant-loop-i l = MadeBelow None (IsJoinedWith l.other) l.initial.self.each l.self.each l.i × (l.self.any ≡ l.initial.self.any) × (l.self.homes ≡ l.initial.self.homes)
