use Rattle.scalar.proofs.scalar.ScalarDomain.join.Goals as goal

pub returns-clause-join : goal.returns-clause-join
returns-clause-join c = record {
  left = λ x h. (c.exchanged.ensures x).1 (record {
    unsigned = c.join.ensures.join.left x h.unsigned;
    signed = c.join-2.ensures.join.left x h.signed;
    bits = c.join-3.ensures.both.left x h.bits;
    half = c.join-4.ensures.join.left x h.half;
  });
  right = λ x h. (c.exchanged.ensures x).1 (record {
    unsigned = c.join.ensures.join.right x h.unsigned;
    signed = c.join-2.ensures.join.right x h.signed;
    bits = c.join-3.ensures.both.right x h.bits;
    half = c.join-4.ensures.join.right x h.half;
  });
}

pub returns-clause-least : goal.returns-clause-least
returns-clause-least c = record {
  unsigned = λ s j x h. c.join.ensures.least s j x ((c.exchanged.ensures x).0 h).unsigned;
  signed = λ s j x h. c.join-2.ensures.least s j x ((c.exchanged.ensures x).0 h).signed;
  bits = λ s j x h. c.join-3.ensures.least s j x ((c.exchanged.ensures x).0 h).bits;
  half = λ s j x h. c.join-4.ensures.least s j x ((c.exchanged.ensures x).0 h).half;
}
