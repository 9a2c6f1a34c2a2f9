use Rattle.std.proofs.Common.{arith}
use Rattle.links.proofs.Linked.{put_there}
use Rattle.links.proofs.Linked.{reg_below}
use Rattle.links.proofs.link.Links.put.Goals as goal

pub returns : goal.returns
returns c = rw c.number.ensures.value (put_there c.args.self.now c.open.new.self c.args.register c.open.ensures.any c.open.ensures.same c.args.link (let e = c.open.ensures.eleven in let b = reg_below c.args.register in omega arith))
