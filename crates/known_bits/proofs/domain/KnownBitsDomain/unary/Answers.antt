use Rattle.std.proofs.Common.{◌≡◌, sym, ◌∙◌}
use Rattle.insn.specs.Word.{unary_result}
use Rattle.known_bits.proofs.Agreeing.{member_of_single, single_value, no_mask}
use Rattle.known_bits.proofs.Results.{only_exact}
use Rattle.known_bits.proofs.domain.KnownBitsDomain.unary.Goals as goal

pub returns-then-a-eq0-clause-sound : goal.returns-then-a-eq0-clause-sound
returns-then-a-eq0-clause-sound c x h = rw (member_of_single c.args.a x c.if-a-eq0.true h) ((c.exact.ensures.alone _).1 (sym c.unary.ensures))

pub returns-then-a-eq0-clause-single : goal.returns-then-a-eq0-clause-single
returns-then-a-eq0-clause-single c x h n =
    let same : c.unary.result ≡ unary_result c.args.op c.args.width x = rw (single_value c.args.a x h) at c.unary.ensures in
    (λ i. (c.exact.ensures.alone n).0 i ∙ same, λ i. (c.exact.ensures.alone n).1 (i ∙ sym same))

pub returns-else-a-eq0-clause-single : goal.returns-else-a-eq0-clause-single
returns-else-a-eq0-clause-single c x h =
    absurd (c.if-a-eq0.false (no_mask c.args.a x h))

pub returns-then-a-eq0-clause-exact : goal.returns-then-a-eq0-clause-exact
returns-then-a-eq0-clause-exact c k set =
    absurd (only_exact c.exact.result c.unary.result k c.exact.ensures.alone set)
