use Rattle.std.proofs.Common.{◌∙◌, refl}
use Rattle.verifier.proofs.Arriving.{both_told}
use Rattle.verifier.proofs.walk.Waiting.push_both.Goals as goal

pub returns-clause-told : goal.returns-clause-told
returns-clause-told c =
    both_told c.args.self.now.cases c.push_where.new.self.cases c.push_answered.new.self.cases c.args.behind c.args.to c.args.test c.args.known.value _ c.in_ok-passes.passes c.in_ok-jumps.jumps
    (c.in_ok-jumps.ensures.kept refl ∙ c.deref_mut.ensures.value) (rw c.deref_mut.ensures.value at c.in_ok-jumps.ensures.told) c.in_ok-passes.ensures.told
