use Rattle.scalar.proofs.scalar.ScalarDomain.unary.Goals as goal

pub returns-in-None-clause-sound : goal.returns-in-None-clause-sound
returns-in-None-clause-sound c x h = (c.exchanged.ensures _).1 (record {
  unsigned = c.unary-in-None.ensures.sound x h.unsigned;
  signed = c.unary-in-None-2.ensures.sound x h.signed;
  bits = c.unary-in-None-3.ensures.sound x h.bits;
  half = c.unary-in-None-4.ensures.sound x h.half;
})
