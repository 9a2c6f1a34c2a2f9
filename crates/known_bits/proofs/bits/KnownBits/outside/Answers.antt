use Rattle.std.proofs.Common.{arith, sym, ap, ◌∙◌}
use Rattle.known_bits.proofs.Names.{bit_at-lt, bit_at}
use Rattle.known_bits.proofs.Agreeing.{apart_from, and_not_at}
use Rattle.known_bits.proofs.bits.KnownBits.outside.Goals as goal

pub returns-clause-value : goal.returns-clause-value
returns-clause-value c k clear =
    let known = ap (λ m. bit_at m k) (sym c.new.ensures.mask) ∙ clear in
    ap (λ v. bit_at v k) c.new.ensures.value ∙ omega (arith, known, and_not_at c.args.n c.args.mask k (omega arith) (omega arith), bit_at-lt c.args.n k)

pub new-requires : goal.new-requires
new-requires c = apart_from _ c.args.mask (λ k. omega (arith, and_not_at c.args.n c.args.mask k (omega arith) (omega arith), bit_at-lt c.args.mask k))
