use Rattle.std.proofs.Common.{false, refl}
use Rattle.stack_state.proofs.block.Block.join_bytes.Goals as goal

pub returns : goal.returns
returns c = record {
  apart = tt;
  marks = λ j lt. rw (c.marks.ensures j lt, c.marks-2.ensures j lt) at (c.common_marks.ensures j lt);
  left = λ w h. record { word = w; has = c.join.ensures.join.left w (c.number.ensures.words false w h); same = λ j lt e. refl };
  right = λ w h. record { word = w; has = c.join.ensures.join.right w (c.number-2.ensures.words false w h); same = λ j lt e. refl };
}
