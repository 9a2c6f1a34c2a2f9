use Rattle.std.proofs.Common.{◌≡◌, length, arith}
use Rattle.std.proofs.lemmas.Grind.{common_steps}
use Rattle.registry_warnings.proofs.Last.{popped}
use Rattle.registry_warnings.proofs.objects.Objects.end.Goals as goal

pub returns-clause-names : goal.returns-clause-names
returns-clause-names c =
    let count : length c.self.inside.open.items ≡ c.self.inside.open.len = grind (arith, common_steps) in
    rw (← c.self.view_is) (popped c.self.inside.open.items c.pop.new.self.items c.pop.result c.pop.ensures.items _ _ count c.pop.ensures.cases).0

pub returns-clause-others : goal.returns-clause-others
returns-clause-others c =
    let count : length c.self.inside.open.items ≡ c.self.inside.open.len = grind (arith, common_steps) in
    rw (← c.self.view_is) (popped c.self.inside.open.items c.pop.new.self.items c.pop.result c.pop.ensures.items _ _ count c.pop.ensures.cases).1
