use Rattle.std.proofs.Common.{sym, ◌∙◌}
use Rattle.known_bits.proofs.Agreeing.{shared_between}
use Rattle.known_bits.proofs.bits.KnownBits.shared.Goals as goal

pub returns-clause-members : goal.returns-clause-members
returns-clause-members c x h = record {
  word = h.word;
  same = λ k clear. rw c.least-least.ensures (shared_between c.args.words.least c.args.words.greatest c.outside.result.mask x k (rw (c.outside.ensures.mask, sym c.least-least.ensures, sym c.greatest.ensures) c.filled.ensures) h.above h.below clear) ∙ sym (c.outside.ensures.value k clear);
}

pub returns-clause-unknown : goal.returns-clause-unknown
returns-clause-unknown c = rw (c.outside.ensures.mask, sym c.least-least.ensures, sym c.greatest.ensures) c.filled.ensures
