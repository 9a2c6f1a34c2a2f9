use Rattle.range.proofs.Names.{W64, B32, word_in_width, word_result_fits, word_extended_fits}
use Rattle.range.proofs.half.HalfRange.by_words.Goals as goal

pub returns : goal.returns
returns c = record {
  has = λ x y hx hy. c.of_words.ensures.has _ (c.apply.ensures.sound _ _ (c.signed.ensures.has x hx) (c.signed-2.ensures.has y hy));
  single = λ x y hx hy ha hb.
      c.of_words.ensures.single _ (word_in_width c.args.width _ (word_result_fits c.args.width c.args.op _ _ (word_extended_fits W64 B32 x) (word_extended_fits W64 B32 y)))
      (c.apply.ensures.single _ _ (c.signed.ensures.single x hx ha) (c.signed-2.ensures.single y hy hb));
}
