use Rattle.std.proofs.Common.{◌*◌, refl, arith}
use Rattle.stack_state.proofs.Names.{And, amount_word}
use Rattle.stack_state.proofs.ByteParts.{all_taken, applied_to, masked}
use Rattle.stack_state.proofs.number.low.Goals as goal

pub returns-then-count-eq8 : goal.returns-then-count-eq8
returns-then-count-eq8 c exact w h = rw (all_taken w c.args.count 8 (omega arith) (amount_word exact c.args.number w h)) h

pub returns : goal.returns
returns c exact w h = rw (masked w c.greatest_of_bytes.result (8 * c.args.count) c.greatest_of_bytes.ensures) at
    (applied_to exact And c.args.number c.exact-greatest.result c.apply.result w c.greatest_of_bytes.result c.apply.ensures.sound c.apply.ensures.single c.exact-greatest.ensures.alone c.exact-greatest.ensures.single h)
