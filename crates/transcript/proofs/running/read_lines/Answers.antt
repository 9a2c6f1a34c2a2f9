use Rattle.std.proofs.Common.{◌≡◌, None, Some, length, arith, rules}
use Rattle.transcript.proofs.Stated.{have_all, have_front, state_on}
use Rattle.transcript.proofs.running.read_lines.Goals as goal

pub returns-in_default : goal.returns-in_default
returns-in_default c =
    let len : c.len.result ≡ length c.loop-text.lines.items = search rules in
    have_front c.args.texts.now c.loop-text.text-index _ c.loop-text.lines.items _ c.loop-text-test.true c.loop-text.invariant (omega arith)
    (λ s h. let e : None ≡ Some s = rw c.in_default.is at (c.in_ok-line.ensures.only s h) in cc)

pub loop-text-preserved : goal.loop-text-preserved
loop-text-preserved c =
    rw c.in_ok-push.ensures.items
    (state_on c.args.texts.now c.loop-text.text-index _ c.loop-text.lines.items c.in-Some.line _ c.loop-text-test.true c.loop-text.invariant c.in-Some.is c.in_ok-line.ensures.some)

pub returns : goal.returns
returns c = have_all c.args.texts.now c.loop-text.text-index c.loop-text.lines.items c.loop-text-test.false c.loop-text.invariant
