use Rattle.std.proofs.Common.{◌≡◌, sym, refl, ◌∙◌}
use Rattle.std.specs.Int.RustNames.{bit_or}
use Rattle.insn.specs.Word.{word_result}
use Rattle.known_bits.proofs.Agreeing.{member_of_single, single_value, no_mask}
use Rattle.known_bits.proofs.Results.{only_exact, no_left, no_right}
use Rattle.known_bits.proofs.domain.KnownBitsDomain.apply.Goals as goal

pub returns-then-a-b-eq0-clause-sound : goal.returns-then-a-b-eq0-clause-sound
returns-then-a-b-eq0-clause-sound c x y hx hy =
    let left = member_of_single c.args.a x (no_left c.args.a.mask c.args.b.mask c.if-a-b-eq0.true) hx in
    let right = member_of_single c.args.b y (no_right c.args.a.mask c.args.b.mask c.if-a-b-eq0.true) hy in
    rw (left, right) ((c.exact.ensures.alone _).1 (sym c.alu.ensures))

pub returns-then-a-b-eq0-clause-single : goal.returns-then-a-b-eq0-clause-single
returns-then-a-b-eq0-clause-single c x y hx hy n =
    let same : c.alu.result ≡ word_result c.args.width c.args.op x y = rw (single_value c.args.a x hx, single_value c.args.b y hy) at c.alu.ensures in
    (λ h. (c.exact.ensures.alone n).0 h ∙ same, λ h. (c.exact.ensures.alone n).1 (h ∙ sym same))

pub returns-then-a-b-eq0-clause-exact : goal.returns-then-a-b-eq0-clause-exact
returns-then-a-b-eq0-clause-exact c exact k set =
    absurd (only_exact c.exact.result c.alu.result k c.exact.ensures.alone set)

pub returns-else-a-b-eq0-clause-single : goal.returns-else-a-b-eq0-clause-single
returns-else-a-b-eq0-clause-single c x y hx hy =
    let none : bit_or c.args.a.mask c.args.b.mask ≡ 0 = rw (no_mask c.args.a x hx, no_mask c.args.b y hy) refl in
    absurd (c.if-a-b-eq0.false none)
