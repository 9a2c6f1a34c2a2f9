use Rattle.std.proofs.Common.{ℕ, ◌^◌, ◌%◌, arith}
use Rattle.scalar.proofs.scalar.Scalar.with_halves_exchanged.Goals as goal

pub returns-in_err-half : goal.returns-in_err-half
returns-in_err-half c = rw c.from_residual.ensures (λ x h.
    c.in_err-half.ensures x h.half (c.of_words.ensures.has x h.signed))

pub returns-in_err-half-2 : goal.returns-in_err-half-2
returns-in_err-half-2 c = rw c.from_residual-in_err-half-2.ensures (λ x h.
    let half = (c.in_ok-half.ensures x).1 (h.half, c.of_words.ensures.has x h.signed) in
    c.in_err-half-2.ensures x half (c.low_halves.ensures x h.bits))

pub returns-in_err-unsigned : goal.returns-in_err-unsigned
returns-in_err-unsigned c = rw c.from_residual-in_err-unsigned.ensures (λ x h.
    let half = (c.in_ok-half.ensures x).1 (h.half, c.of_words.ensures.has x h.signed) in
    let narrowed = (c.in_ok-half-2.ensures x).1 (half, c.low_halves.ensures x h.bits) in
    c.in_err-unsigned.ensures (λ (n : ℕ). n) x h.unsigned (c.words_within.ensures x h.unsigned narrowed))

pub returns-in_err-signed : goal.returns-in_err-signed
returns-in_err-signed c = rw c.from_residual-in_err-signed.ensures (λ x h.
    let half = (c.in_ok-half.ensures x).1 (h.half, c.of_words.ensures.has x h.signed) in
    let narrowed = (c.in_ok-half-2.ensures x).1 (half, c.low_halves.ensures x h.bits) in
    c.in_err-signed.ensures x h.signed (c.numbers_within.ensures x h.signed narrowed))

pub returns-in_err-bits : goal.returns-in_err-bits
returns-in_err-bits c = rw c.from_residual-in_err-bits.ensures (λ x h.
    let half = (c.in_ok-half.ensures x).1 (h.half, c.of_words.ensures.has x h.signed) in
    let narrowed = (c.in_ok-half-2.ensures x).1 (half, c.low_halves.ensures x h.bits) in
    c.in_err-bits.ensures x h.bits (c.seen_alike-low.ensures.alike (x % 2 ^ 32) x h.unsigned.word (c.shared.ensures.members (x % 2 ^ 32) (c.words.ensures.has x narrowed)) (omega arith)))

pub returns : goal.returns
returns c x = (
  λ h. record {
    unsigned = ((c.in_ok-unsigned.ensures (λ (n : ℕ). n) x).0 h.unsigned).0;
    signed = ((c.in_ok-signed.ensures x).0 h.signed).0;
    bits = ((c.in_ok-bits.ensures x).0 h.bits).0;
    half = ((c.in_ok-half.ensures x).0 ((c.in_ok-half-2.ensures x).0 h.half).0).0;
  },
  λ h. let half = (c.in_ok-half.ensures x).1 (h.half, c.of_words.ensures.has x h.signed) in
      let narrowed = (c.in_ok-half-2.ensures x).1 (half, c.low_halves.ensures x h.bits) in
      record {
        unsigned = (c.in_ok-unsigned.ensures (λ (n : ℕ). n) x).1 (h.unsigned, c.words_within.ensures x h.unsigned narrowed);
        signed = (c.in_ok-signed.ensures x).1 (h.signed, c.numbers_within.ensures x h.signed narrowed);
        bits = (c.in_ok-bits.ensures x).1 (h.bits, c.seen_alike-low.ensures.alike (x % 2 ^ 32) x h.unsigned.word (c.shared.ensures.members (x % 2 ^ 32) (c.words.ensures.has x narrowed)) (omega arith));
        half = narrowed;
      },
)
