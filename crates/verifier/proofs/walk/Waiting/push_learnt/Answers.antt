use Rattle.std.proofs.Common.{refl, true}
use Rattle.verifier.proofs.Waits.{learnt_way, no_way}
use Rattle.verifier.proofs.walk.Waiting.push_learnt.Goals.{else-may, then-may+in_ok-push_copy}
use Rattle.verifier.proofs.walk.Waiting.push_learnt.Goals as goal

pub returns-clause-told : goal.returns-clause-told
returns-clause-told c =
    elim c.if-may.branch [
      | then-may+in_ok-push_copy w ↦ rw w.self-is (learnt_way c.args.self.now.cases w.push_copy.new.self.cases c.args.to c.args.test true c.args.known.now c.learn-may.new.self c.learn-may.result w.if-may.true c.learn-may.ensures.learnt (w.in_ok-push_copy.ensures.pushed refl))
      | else-may w ↦ rw w.self-is (no_way c.args.self.now.cases c.args.to c.args.test true c.args.known.now c.learn-may.new.self c.learn-may.result w.if-may.false c.learn-may.ensures.learnt)
    ]
