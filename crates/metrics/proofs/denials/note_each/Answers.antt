use Rattle.std.proofs.Common.{arith, refl}
use Rattle.metrics.specs.Denied.{denied_once}
use Rattle.metrics.proofs.Each.{all_changed, next_changed}
use Rattle.metrics.proofs.denials.note_each.Goals as goal

pub loop-denied-init : goal.loop-denied-init
loop-denied-init c = refl

pub loop-denied-preserved : goal.loop-denied-preserved
loop-denied-preserved c =
    next_changed (denied_once c.args.hook.now) c.loop-denied.denied-index c.args.by.now c.loop-denied.by c.denied-item.result c.note.new.self c.loop-denied.invariant (omega arith)
    c.note.ensures

pub returns : goal.returns
returns c = all_changed (denied_once c.args.hook.now) c.loop-denied.denied-index c.args.by.now c.loop-denied.by c.loop-denied.invariant (omega arith)
