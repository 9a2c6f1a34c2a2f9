use Rattle.std.proofs.Common.{List, ℕ, length, ap, arith}
use Rattle.http_call.specs.Answers.{begun, reading}
use Rattle.http_call.proofs.Came.{ok_is, run_begun, run_more}
use Rattle.http_call.proofs.call.Caller.answer.Goals as goal

pub steps-init : goal.steps-init
steps-init g c = record {
  within = (let long = ap (λ (l : List ℕ). length l) c.new.ensures.items in omega (arith, long));
  run = run_begun (g.S.Read.remaining c.args.self.now.stream) c.args.self.now.client c.args.self.now.unread.items c.new.result.items c.new.ensures.items;
}

pub steps-preserved : goal.steps-preserved
steps-preserved g c = record {
  within = c.step.ensures.within;
  run = run_more (g.S.Read.remaining c.args.self.now.stream) (g.S.Read.remaining c.steps.self.stream) (g.S.Read.remaining c.step.new.self.stream) (begun c.args.self.now)
      (reading c.steps.self c.steps.response) (reading c.step.new.self c.step.new.response) c.steps.invariant.run (c.in_ok-step.ensures.more (ok_is _ _ c.in-More.is));
}
