use Rattle.std.proofs.Common.{◌∙◌, arith}
use Rattle.known_bits.proofs.Names.{word_result, word_result_fits}
use Rattle.known_bits.proofs.Agreeing.{member_of_single}
use Rattle.known_bits.proofs.Moving.{moved_apart, moved_agrees}
use Rattle.known_bits.proofs.Witnesses.{moved_exact}
use Rattle.known_bits.proofs.bits.KnownBits.shifted.Goals as goal

pub new-requires : goal.new-requires
new-requires c = rw (c.alu.ensures, c.alu-then-b-eq0.ensures) (moved_apart (λ n. word_result c.args.width c.args.op n c.args.b.value) c.args.a (c.requires c.args.b.value (omega arith)))

pub returns-then-b-eq0-clause-sound : goal.returns-then-b-eq0-clause-sound
returns-then-b-eq0-clause-sound c x y hx hy = rw (c.new.ensures.value, c.new.ensures.mask, c.alu.ensures, c.alu-then-b-eq0.ensures, member_of_single c.args.b y c.if-b-eq0.true hy)
    (moved_agrees (λ n. word_result c.args.width c.args.op n c.args.b.value) c.args.a x (c.requires c.args.b.value (omega arith)) hx)

pub returns-else-b-eq0-clause-sound : goal.returns-else-b-eq0-clause-sound
returns-else-b-eq0-clause-sound c x y hx hy = c.all_of.ensures _ (word_result_fits c.args.width c.args.op x y hx.word hy.word)

pub returns-then-b-eq0-clause-exact : goal.returns-then-b-eq0-clause-exact
returns-then-b-eq0-clause-exact c known =
    moved_exact c.args.op c.args.width c.args.a c.args.b c.new.result (c.requires c.args.b.value (omega arith)) (c.new.ensures.mask ∙ c.alu-then-b-eq0.ensures)

pub returns-else-b-eq0-clause-exact : goal.returns-else-b-eq0-clause-exact
returns-else-b-eq0-clause-exact c known = absurd (c.if-b-eq0.false known)
