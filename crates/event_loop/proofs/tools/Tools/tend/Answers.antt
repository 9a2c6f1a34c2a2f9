use Rattle.std.proofs.Common.{subst, sym, ◌∙◌, ap, ℕ}
use Rattle.event_loop.proofs.Names.{goes, keeping, not_tended, tends}
use Rattle.event_loop.specs.Asking.{milliseconds}
use Rattle.event_loop.proofs.tools.Tools.tend.Goals as goal

pub returns-in-Ok-clause-tended : goal.returns-in-Ok-clause-tended
returns-in-Ok-clause-tended g c = λ first found service past at h.
    goes h (tends c.tend.new.self c.in-Ok.due (record { still = c.in-Ok.ensures.kept; basis = c.in-Ok.ensures.basis; no_further = c.in-Ok.ensures.no_further; size = c.in-Ok.ensures.size; until = c.tend.ensures.until })
    (subst (λ (n : ℕ). (keeping g.K.Keeper).tends c.args.self.now.keeper n c.in-Ok.due c.tend.new.self) (c.saturating_mul.ensures ∙ ap milliseconds (sym at)) c.in-Ok.ensures.tended))

pub returns-in-Err-clause-lost : goal.returns-in-Err-clause-lost
returns-in-Err-clause-lost g c = λ found service past. not_tended c.tend.new.self c.in-Err.ensures.lost c.tend.ensures.meanwhile c.in-Err.ensures.fails
