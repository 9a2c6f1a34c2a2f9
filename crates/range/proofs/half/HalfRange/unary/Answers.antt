use Rattle.std.proofs.Common.{inl, inr}
use Rattle.range.proofs.Names.{W64, B32, unary_result, image_is_word, word_extended_fits, same_low, IsDeterminedImage}
use Rattle.range.proofs.LowHalves.{same_half, image_low, extended_low}
use Rattle.range.proofs.half.HalfRange.unary.Goals as goal

pub returns-in-Swap-clause-sound : goal.returns-in-Swap-clause-sound
returns-in-Swap-clause-sound c x hx = c.any.ensures _ (image_is_word c.args.op c.args.width x)

pub returns-in-Swap-clause-single : goal.returns-in-Swap-clause-single
returns-in-Swap-clause-single c = rw c.in-Swap.is (λ determined. absurd determined)

pub returns-in-Neg-clause-sound : goal.returns-in-Neg-clause-sound
returns-in-Neg-clause-sound c x hx =
    let told : IsDeterminedImage c.args.op = elim c.in-Neg.is [ inl e ↦ rw e tt | inr e ↦ rw e.1 tt ] in
    same_low c.of_words.result _ (unary_result c.args.op c.args.width x) (image_is_word c.args.op c.args.width x)
    (image_low c.args.op c.args.width x _ told hx.word (word_extended_fits W64 B32 x) (extended_low x))
    (c.of_words.ensures.has _ (c.unary.ensures.sound _ (c.signed.ensures.has x hx)))

pub returns-in-Neg-clause-single : goal.returns-in-Neg-clause-single
returns-in-Neg-clause-single c determined x hx ha =
    same_half c.of_words.result _ (unary_result c.args.op c.args.width x) (image_low c.args.op c.args.width x _ determined hx (word_extended_fits W64 B32 x) (extended_low x))
    (c.of_words.ensures.single _ (image_is_word c.args.op W64 _) (c.unary.ensures.single _ (c.signed.ensures.single x hx ha)))
