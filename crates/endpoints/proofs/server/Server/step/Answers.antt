use Rattle.std.proofs.Common.{◌∙◌, subst, sym}
use Rattle.endpoints.proofs.Names.{asked_of, Sweeps}
use Rattle.endpoints.specs.Telling.{Heeded, StepsTelling, heeded, steps_of}
use Rattle.endpoints.proofs.AnswerWhole.{steps_are_answers}
use Rattle.endpoints.proofs.Sweeping.{swept_steps, sweeps}
use Rattle.endpoints.proofs.server.Server.step.Goals as goal

pub returns-clause-replies : goal.returns-clause-replies
returns-clause-replies g c =
    let heed : Heeded = heeded (record { asked = asked_of c.args.request.now; moment = c.args.moment; draws = c.args.draws.now }) c.args.interest in
    subst (λ server. StepsTelling g.H.HookHost c.args.self.now heed c.answer-stepped.result server) (sym (c.self.view_is ∙ c.sweep.ensures.same))
    (swept_steps g.H.HookHost c.args.self.now c.answer-stepped.new.self c.sweep.new.self.store heed c.answer-stepped.result c.sweep.ensures.fits c.answer-stepped.ensures.replies)

pub returns-clause-answers : goal.returns-clause-answers
returns-clause-answers g c =
    let heed : Heeded = heeded (record { asked = asked_of c.args.request.now; moment = c.args.moment; draws = c.args.draws.now }) c.args.interest in
    steps_are_answers g.H.HookHost c.args.self.now _ heed.arrival c.answer-stepped.result.reply
    (steps_of g.H.HookHost c.args.self.now heed c.answer-stepped.result _ (returns-clause-replies g c))

pub returns-clause-kept : goal.returns-clause-kept
returns-clause-kept g c =
    let heed : Heeded = heeded (record { asked = asked_of c.args.request.now; moment = c.args.moment; draws = c.args.draws.now }) c.args.interest in
    subst (λ server. Sweeps g.H.HookHost c.args.self.now server) (sym (c.self.view_is ∙ c.sweep.ensures.same))
    (sweeps g.H.HookHost c.args.self.now c.answer-stepped.new.self c.sweep.new.self.store heed c.answer-stepped.result c.sweep.ensures.fits (λ history fits. rw c.record_count-before.ensures at (c.sweep.ensures.kept history fits)) c.answer-stepped.ensures.replies)
