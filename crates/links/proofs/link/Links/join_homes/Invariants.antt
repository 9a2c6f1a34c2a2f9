use Rattle.std.proofs.Common.{◌≡◌, None}
use Rattle.links.proofs.Linked.{IsJoinedWith, MadeBelow}
use Rattle.links.proofs.link.Links.join_homes.Given as goal

abbrev pub invariant-loop-i : goal.invariant-loop-i
invariant-loop-i l = MadeBelow None (IsJoinedWith l.other) l.initial.self.homes l.self.homes l.i × (l.self.any ≡ l.initial.self.any) × (l.self.each ≡ l.initial.self.each)
