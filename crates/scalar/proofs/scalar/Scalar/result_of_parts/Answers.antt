use Rattle.scalar.proofs.scalar.Scalar.result_of_parts.Goals as goal

pub returns-clause-sound : goal.returns-clause-sound
returns-clause-sound c x y ha hb = record {
  unsigned = c.apply.ensures.sound x y ha.unsigned hb.unsigned;
  signed = c.signed_result.ensures x y ha hb;
  bits = c.apply-2.ensures.sound x y ha.bits hb.bits;
  half = c.apply-3.ensures.sound x y ha.half hb.half;
}

pub returns-clause-sums : goal.returns-clause-sums
returns-clause-sums c is_add is_64 fits s all x h = (c.apply.ensures.least is_add is_64 fits).least s all x h.unsigned
