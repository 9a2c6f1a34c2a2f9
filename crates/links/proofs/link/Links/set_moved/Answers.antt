use Rattle.links.proofs.Linked.{moved_there}
use Rattle.links.proofs.link.Links.set_moved.Goals as goal

pub returns : goal.returns
returns c = moved_there c.args.self.now c.open.new.self c.set_each.new.self c.args.moved.now c.open.ensures.any c.open.ensures.same c.set_each.ensures.same c.set_each.ensures.homes c.set_each.ensures.each
