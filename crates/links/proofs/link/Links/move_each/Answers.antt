use Rattle.std.proofs.Common.{None}
use Rattle.links.proofs.Linked.{IsMovedFrom, made_one}
use Rattle.links.proofs.link.Links.move_each.Goals as goal

pub loop-i-preserved : goal.loop-i-preserved
loop-i-preserved c =
    let v = c.loop-i.invariant in
    (made_one None (IsMovedFrom c.args.dst c.args.by) c.args.self.now.each c.loop-i.self.each c.loop-i.i c.moved_from.result c.loop-i-test.true v.0 c.moved_from.ensures, v.1)
