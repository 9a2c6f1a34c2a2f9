use Rattle.std.proofs.Common.{subst}
use Rattle.verifier.specs.declared.known.Known.{Known}
use Rattle.hook_commands.specs.Explanations.{IsReadTold}
use Rattle.hook_commands.proofs.Cases.{told_more}
use Rattle.hook_commands.proofs.why.cases_told.Goals as goal

-- src/why.rt:185:5
pub loop-known-preserved : goal.loop-known-preserved
loop-known-preserved c =
    let one = c.in_ok-read_told.field-0 in
    let read : IsReadTold c.args.layout c.args.insn c.known-item.result.value one =
    subst (λ (k : Known). IsReadTold c.args.layout c.args.insn k one) c.deref.ensures c.in_ok-read_told.ensures in
    rw c.in_ok-push.ensures.items (told_more c.args.layout c.args.insn c.args.cases.now c.loop-known.known-index c.known-item.result
    c.loop-known.told.items one c.loop-known-test.true c.known-item.is c.loop-known.invariant read)
