use Rattle.std.proofs.Common.{None, sym}
use Rattle.links.proofs.Linked.{IsLeft, made_kept, made_one}
use Rattle.links.proofs.link.Links.lose_each.Goals.{else-joins, then-joins}
use Rattle.links.proofs.link.Links.lose_each.Goals as goal

pub loop-i-preserved : goal.loop-i-preserved
loop-i-preserved c =
    let v = c.loop-i.invariant in
    elim c.if-joins.branch [
      | then-joins w ↦ rw w.self-is (made_one None (IsLeft c.args.written) c.args.self.now.each c.loop-i.self.each c.loop-i.i None c.loop-i-test.true v.0 (sym (rw w.if-joins.true at c.joins.ensures.left)), v.1, v.2)
      | else-joins w ↦ rw w.self-is (made_kept None (IsLeft c.args.written) c.args.self.now.each c.loop-i.self.each c.loop-i.i c.loop-i-test.true v.0 (sym (rw w.if-joins.false at c.joins.ensures.left)), v.1, v.2)
    ]
