use Rattle.std.proofs.Common.{arith}
use Rattle.stack_state.specs.declared.mark.Mark.TheVariants.{Unset}
use Rattle.stack_state.proofs.Written.{next_done}
use Rattle.stack_state.proofs.bytes.common_marks.Goals as goal

pub loop-j-preserved : goal.loop-j-preserved
loop-j-preserved c = next_done Unset _ 8 0 c.args.marks c.loop-j.new c.loop-j.j c.join.result (omega arith) c.join.ensures c.loop-j.invariant
