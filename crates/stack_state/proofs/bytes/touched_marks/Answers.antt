use Rattle.std.proofs.Common.{arith}
use Rattle.stack_state.specs.declared.mark.Mark.TheVariants.{Unset}
use Rattle.stack_state.proofs.Written.{next_done}
use Rattle.stack_state.proofs.bytes.touched_marks.Goals as goal

pub loop-j-preserved : goal.loop-j-preserved
loop-j-preserved c = next_done Unset _ 8 c.args.from c.args.marks c.loop-j.new c.loop-j.j c.touched.result (omega arith) c.touched.ensures.mark c.loop-j.invariant

pub returns : goal.returns
returns c = record {
  there = λ j ge lt. c.loop-j.invariant.done j ge (omega arith);
  others = λ j lt out. c.loop-j.invariant.rest j (grind (arith, out));
}
