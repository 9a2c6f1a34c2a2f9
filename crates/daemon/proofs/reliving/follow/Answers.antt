use Rattle.std.proofs.Common.{◌≡◌, ◌∙◌, ap, is_some, sym, subst}
use Rattle.daemon.specs.Reliving.{IsToldOf, by_former, by_next, estate_of}
use Rattle.daemon.specs.declared.call_log.CallLog.{CallLog}
use Rattle.daemon.proofs.Relived.{on_left}
use Rattle.daemon.proofs.Resuming.{told_of, told_refusal}
use Rattle.daemon.proofs.reliving.follow.Goals as goal

pub returns-in_default : goal.returns-in_default
returns-in_default g c =
    let registry = c.args.wanted.heirs.next.candidate.registry in
    by_next _ c.live_by-tried.ensures.lives
    (subst (λ (log : CallLog). IsToldOf registry c.args.replies.calls log.calls c.live_by-tried.result.end) (sym c.into_log-replies.ensures)
    (told_of registry c.live_by-tried.result.end c.args.replies c.new-opening.result c.live_by-tried.new.opening c.in_default.not-Refused (ap is_some c.new-opening.ensures.waits)
    c.new-opening.ensures.before (c.new-opening.ensures.reloaded ∙ c.of-reloaded.ensures) c.live_by-tried.ensures.opened))

pub returns : goal.returns
returns g c =
    let registry = c.args.wanted.heirs.next.candidate.registry in
    by_former c.live_by-tried.result c.live_by-life.result c.in-Refused.fault c.live_by-tried.ensures.lives c.in-Refused.is
    (subst (λ (log : CallLog). IsToldOf registry c.args.replies.calls log.calls c.live_by-tried.result.end) (sym c.into_log-replies-2.ensures)
    (told_refusal registry c.in-Refused.fault c.live_by-life.result.end c.live_by-tried.result.end c.args.replies c.new-opening.result c.live_by-tried.new.opening c.refuse.new.self
    c.live_by-life.new.opening c.in-Refused.is (ap is_some c.new-opening.ensures.waits) c.new-opening.ensures.before c.live_by-tried.ensures.opened c.refuse.ensures
    c.live_by-life.ensures.opened))
    (on_left _ _ _ _ c.estate_of.result (estate_of c.live_by-tried.result) c.live_by-life.result c.estate_of.ensures c.live_by-life.ensures.lives)
