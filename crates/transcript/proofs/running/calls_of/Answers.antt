use Rattle.std.proofs.Common.{subst}
use Rattle.transcript.proofs.Names.{IsCallOf}
use Rattle.transcript.proofs.Stated.{call_on}
use Rattle.transcript.specs.Seen.{stated}
use Rattle.transcript.specs.declared.line.Line.{Line}
use Rattle.transcript.proofs.running.calls_of.Goals as goal

pub loop-line-preserved : goal.loop-line-preserved
loop-line-preserved c =
    let call = c.call_of-call.result in
    let of : IsCallOf (stated _) call = subst (λ (l : Line). IsCallOf (stated l) call) c.line-item.is c.call_of-call.ensures in
    rw c.in_ok-extend_from_slice.ensures.items (call_on c.args.lines.now c.loop-line.line-index c.line-item.result c.loop-line.calls.items call c.loop-line-test.true c.loop-line.invariant of)
