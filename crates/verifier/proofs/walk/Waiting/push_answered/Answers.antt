use Rattle.std.proofs.Common.{refl}
use Rattle.verifier.proofs.Waits.{learnt_way, no_way}
use Rattle.verifier.proofs.walk.Waiting.push_answered.Goals as goal

pub returns-in_ok-push-clause-told : goal.returns-in_ok-push-clause-told
returns-in_ok-push-clause-told c =
    learnt_way c.args.self.now.cases c.push.new.self.cases c.args.to c.args.test c.args.answer c.args.known.value c.learn-may.new.self c.learn-may.result c.if-may.true (rw c.deref_mut.ensures.value at c.learn-may.ensures.learnt) (c.in_ok-push.ensures.pushed refl)

pub returns-else-may-clause-told : goal.returns-else-may-clause-told
returns-else-may-clause-told c =
    no_way c.args.self.now.cases c.args.to c.args.test c.args.answer c.args.known.value c.learn-may.new.self c.learn-may.result c.if-may.false (rw c.deref_mut.ensures.value at c.learn-may.ensures.learnt)
