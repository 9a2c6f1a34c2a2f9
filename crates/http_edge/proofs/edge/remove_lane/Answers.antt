use Rattle.std.proofs.Common.{rules}
use Rattle.std.specs.Prelude.{not, ◌==◌}
use Rattle.std.proofs.lemmas.Fn.{filter_same}
use Rattle.http_edge.specs.Lanes.{SeenLane}
use Rattle.http_edge.proofs.edge.remove_lane.Goals as goal

pub returns-clause-without : goal.returns-clause-without
returns-clause-without c = filter_same _ (λ (lane : SeenLane). not (lane.number == c.args.c)) _ (λ x b f' called. search rules) _ _ c.retain.ensures.filtered
