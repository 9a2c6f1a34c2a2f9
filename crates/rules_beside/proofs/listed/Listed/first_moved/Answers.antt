use Rattle.std.proofs.Common.{sym, ◌∙◌}
use Rattle.rules_beside.proofs.Owned.{moves_on}
use Rattle.rules_beside.proofs.listed.Listed.first_moved.Goals as goal

pub loop-rest-preserved : goal.loop-rest-preserved
loop-rest-preserved c =
    c.loop-rest.invariant
    ∙ moves_on c.args.self.now c.loop-rest.rest.now c.was-item.result _ c.in-len1-up.len_at_least c.was-item.is (sym c.has_moved.ensures ∙ c.if-has_moved.false)
