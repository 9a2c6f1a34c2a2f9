use Rattle.std.proofs.Common.{rules, ℕ}
use Rattle.std.specs.Prelude.{nat_le}
use Rattle.std.proofs.lemmas.Fn.{filter_same}
use Rattle.http_edge.proofs.output.drop_ends.Goals as goal

pub returns : goal.returns
returns c = filter_same _ (λ (end : ℕ). nat_le c.args.n end) _ (λ x b f' called. search rules) _ _ c.retain.ensures.filtered
