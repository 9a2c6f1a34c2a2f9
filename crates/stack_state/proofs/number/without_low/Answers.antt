use Rattle.std.proofs.Common.{◌*◌, refl, arith}
use Rattle.stack_state.proofs.Names.{Rsh}
use Rattle.stack_state.proofs.ByteParts.{applied_to, none_taken, small_shift}
use Rattle.stack_state.proofs.number.without_low.Goals as goal

pub returns-then-count-eq0 : goal.returns-then-count-eq0
returns-then-count-eq0 c exact w h = rw (none_taken w c.args.count (omega arith)) h

pub returns : goal.returns
returns c exact w h = rw (small_shift c.args.count (omega arith)) at
    (applied_to exact Rsh c.args.number c.exact-moved.result c.apply.result w (8 * c.args.count) c.apply.ensures.sound c.apply.ensures.single c.exact-moved.ensures.alone c.exact-moved.ensures.single h)
