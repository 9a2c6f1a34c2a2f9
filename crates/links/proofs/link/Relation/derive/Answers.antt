use Rattle.links.proofs.link.Relation.derive.Goals as goal

pub returns-in-Sum : goal.returns-in-Sum
returns-in-Sum c = rw c.in-Sum.is (record { sound = c.apply_by_parts.ensures.sound; single = c.apply_by_parts.ensures.single; least = c.apply_by_parts.ensures.sums })
