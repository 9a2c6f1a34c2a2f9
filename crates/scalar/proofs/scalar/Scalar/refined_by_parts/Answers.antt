use Rattle.std.proofs.Common.{refl}
use Rattle.insn.specs.Word.{word_holds}
use Rattle.scalar.proofs.Narrowing.{not_not}
use Rattle.scalar.proofs.scalar.Scalar.refined_by_parts.Goals as goal

pub returns-clause-narrowed : goal.returns-clause-narrowed
returns-clause-narrowed c = record {
  within = (
    λ x h. record { unsigned = c.in_ok-unsigned.ensures.within.0 x h.unsigned; signed = c.in_ok-signed.ensures.within.0 x h.signed; bits = c.in_ok-bits.ensures.within.0 x h.bits; half = h.half },
    λ y h. record { unsigned = c.in_ok-unsigned.ensures.within.1 y h.unsigned; signed = c.in_ok-signed.ensures.within.1 y h.signed; bits = c.in_ok-bits.ensures.within.1 y h.bits; half = h.half },
  );
  halves = (refl, refl);
  words = λ e o. c.in_ok-unsigned.ensures.least e o;
  numbers = λ e o. c.in_ok-signed.ensures.least e o;
  tight = λ s. c.in_ok-bits.ensures.tight s;
  single = λ x y one other.
      not_not (word_holds c.args.width c.args.cond x y) c.args.taken (λ unanswered. let none = c.in_ok-bits.ensures.single x y (record { left = one.bits; right = other.bits; other = unanswered }) in cc);
}
