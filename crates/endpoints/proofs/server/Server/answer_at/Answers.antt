use Rattle.std.proofs.Common.{◌≡◌, subst, None}
use Rattle.answers.specs.declared.endpoint.Endpoint.{Endpoint}
use Rattle.endpoints.proofs.Names.{IsRuling, asked_of, comes_to, in_writing, reply_of, says_with, Asked}
use Rattle.answers.specs.Halts.{Halts}
use Rattle.endpoints.proofs.Answering.{answered, halts}
use Rattle.endpoints.proofs.Shorter.{ended_short}
use Rattle.endpoints.specs.Rulings.{asking_at}
use Rattle.endpoints.specs.RulingsParts.{Heeding, IsToldBy, heeding}
use Rattle.telling.specs.declared.telling.Upshot.{Upshot}
use Rattle.endpoints.proofs.server.Server.answer_at.Goals as goal

pub returns-in-Err-clause-short : goal.returns-in-Err-clause-short
returns-in-Err-clause-short g c = λ few.
    ended_short g.H.HookHost c.args.self.now (heeding (asking_at c.args.endpoint (asked_of c.args.request.now) c.args.draws.now) c.args.interest) c.halted.result _ c.halted.ensures

pub returns-in-Err-decide-clause-short : goal.returns-in-Err-decide-clause-short
returns-in-Err-decide-clause-short g c = λ few.
    ended_short g.H.HookHost c.args.self.now (heeding (asking_at c.args.endpoint (asked_of c.args.request.now) c.args.draws.now) c.args.interest) c.halted-in-Err-decide.result _ c.halted-in-Err-decide.ensures

pub returns-in-Err-clause-replies : goal.returns-in-Err-clause-replies
returns-in-Err-clause-replies g c =
    let self = c.args.self.now in
    halts g.H.HookHost g.met.H.HookHost.last_answers self (heeding (asking_at c.args.endpoint (asked_of c.args.request.now) c.args.draws.now) c.args.interest) _ c.halted.result c.halted.ensures
    (λ first history fits. c.in-Err.ensures.ends history (says_with g.H.HookHost self.host _) self.greatest c.args.draws.now)

pub returns-in-Err-decide-clause-replies : goal.returns-in-Err-decide-clause-replies
returns-in-Err-decide-clause-replies g c =
    let self = c.args.self.now in
    let asked : Asked = asked_of c.args.request.now in
    halts g.H.HookHost g.met.H.HookHost.last_answers self (heeding (asking_at c.args.endpoint asked c.args.draws.now) c.args.interest) _ c.halted-in-Err-decide.result c.halted-in-Err-decide.ensures
    (λ first history fits. subst (λ (endpoint : Endpoint). Halts c.in-Err-decide.halt (comes_to g.H.HookHost self history (asking_at endpoint asked c.args.draws.now) None)) c.in-Ok.ensures.endpoint
    (c.in-Err-decide.ensures.rules c.in-Ok.ensures.read first history fits))

pub apply-requires : goal.apply-requires
apply-requires g c =
    let same = c.in_ok-reserve.ensures.same in
    record {
      rooms = c.in_ok-reserve.ensures.room;
      hook = rw same.host c.in-Ok-decide.ensures.hook;
    }

pub returns-clause-replies : goal.returns-clause-replies
returns-clause-replies g c = λ first history fits.
    let self = c.args.self.now in
    let asked : Asked = asked_of c.args.request.now in
    let ruling = c.in-Ok-decide.ruling in
    let heard : Heeding = heeding (asking_at c.args.endpoint asked c.args.draws.now) c.args.interest in
    let value : c.in_ok-reply.reply ≡ in_writing (reply_of self.rules (g.H.HookHost.names self.host) ruling.decision.answer) =
    rw (← c.self.view_is) c.in_ok-reply.ensures.value in
    answered g.H.HookHost g.met.H.HookHost.last_answers self c.reserve.new.self _ first history heard ruling c.in_ok-reply.reply c.in_ok-told.told
    (subst (λ (endpoint : Endpoint). IsRuling g.H.HookHost self history (asking_at endpoint asked c.args.draws.now) ruling) c.in-Ok.ensures.endpoint
    (c.in-Ok-decide.ensures.rules c.in-Ok.ensures.read first history fits))
    (subst (λ (upshot : Upshot). IsToldBy g.H.HookHost self heard upshot c.in_ok-told.told) (c.of-upshot.ensures self.rules (g.H.HookHost.names self.host)) c.in_ok-told.ensures)
    c.in_ok-reserve.ensures.same c.apply.ensures.makes c.apply.ensures.host c.apply.ensures.notes value fits
