use Rattle.std.proofs.Common.{refl, ◌<◌, ◌^◌, bit_and, arith}
use Rattle.range.proofs.Names.{and_le_r, W64, B32, word_extended, word_result_fits, word_extended_fits}
use Rattle.range.proofs.half.HalfRange.shifted.Goals as goal

pub returns : goal.returns
returns c = record {
  has = λ x y hx hy. c.of_words.ensures.has _ (c.apply.ensures.sound _ _ (c.signed-2.ensures.has x hx)
      (c.apply-amounts.ensures.sound _ 31 (c.signed.ensures.has y hy) ((c.exact.ensures.alone 31).1 refl)));
  single = λ x y hx hy ha hb.
      let n = word_extended W64 B32 y in
      let mask = and_le_r n 31 in
      let small : bit_and n 31 < 2 ^ 64 = omega arith in
      c.of_words.ensures.single _ (word_result_fits W64 c.args.op _ (bit_and n 31) (word_extended_fits W64 B32 x) small)
      (c.apply.ensures.single _ _ (c.signed-2.ensures.single x hx ha) (c.apply-amounts.ensures.single n 31 (c.signed.ensures.single y hy hb) c.exact.ensures.single));
}
