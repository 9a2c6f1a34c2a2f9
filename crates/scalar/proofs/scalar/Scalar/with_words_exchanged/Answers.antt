use Rattle.std.proofs.Common.{ℕ}
use Rattle.scalar.proofs.scalar.Scalar.with_words_exchanged.Goals as goal

pub returns-in_err-unsigned : goal.returns-in_err-unsigned
returns-in_err-unsigned c = rw c.from_residual.ensures (λ x h.
    c.in_err-unsigned.ensures (λ (n : ℕ). n) x h.unsigned (c.range.ensures.members x h.bits))

pub returns-in_err-signed : goal.returns-in_err-signed
returns-in_err-signed c = rw c.from_residual-in_err-signed.ensures (λ x h.
    let words = (c.in_ok-unsigned.ensures (λ (n : ℕ). n) x).1 (h.unsigned, c.range.ensures.members x h.bits) in
    c.in_err-signed.ensures x h.signed (c.of_unsigned.ensures x words))

pub returns-in_err-unsigned-2 : goal.returns-in_err-unsigned-2
returns-in_err-unsigned-2 c = rw c.from_residual-in_err-unsigned-2.ensures (λ x h.
    let words = (c.in_ok-unsigned.ensures (λ (n : ℕ). n) x).1 (h.unsigned, c.range.ensures.members x h.bits) in
    let numbers = (c.in_ok-signed.ensures x).1 (h.signed, c.of_unsigned.ensures x words) in
    c.in_err-unsigned-2.ensures (λ (n : ℕ). n) x words (c.unsigned.ensures x numbers))

pub returns-in_err-bits : goal.returns-in_err-bits
returns-in_err-bits c = rw c.from_residual-in_err-bits.ensures (λ x h.
    let words = (c.in_ok-unsigned.ensures (λ (n : ℕ). n) x).1 (h.unsigned, c.range.ensures.members x h.bits) in
    let numbers = (c.in_ok-signed.ensures x).1 (h.signed, c.of_unsigned.ensures x words) in
    let narrowed = (c.in_ok-unsigned-2.ensures (λ (n : ℕ). n) x).1 (words, c.unsigned.ensures x numbers) in
    c.in_err-bits.ensures x h.bits (c.shared.ensures.members x narrowed))

pub returns : goal.returns
returns c x = (
  λ h. record {
    unsigned = ((c.in_ok-unsigned.ensures (λ (n : ℕ). n) x).0 ((c.in_ok-unsigned-2.ensures (λ (n : ℕ). n) x).0 h.unsigned).0).0;
    signed = ((c.in_ok-signed.ensures x).0 h.signed).0;
    bits = ((c.in_ok-bits.ensures x).0 h.bits).0;
    half = h.half;
  },
  λ h. let words = (c.in_ok-unsigned.ensures (λ (n : ℕ). n) x).1 (h.unsigned, c.range.ensures.members x h.bits) in
      let numbers = (c.in_ok-signed.ensures x).1 (h.signed, c.of_unsigned.ensures x words) in
      let narrowed = (c.in_ok-unsigned-2.ensures (λ (n : ℕ). n) x).1 (words, c.unsigned.ensures x numbers) in
      record { unsigned = narrowed; signed = numbers; bits = (c.in_ok-bits.ensures x).1 (h.bits, c.shared.ensures.members x narrowed); half = h.half },
)
