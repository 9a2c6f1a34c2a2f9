use Rattle.std.proofs.Common.{◌≡◌, ◌*◌, ◌%◌, ◌^◌, ◌<◌, ℕ, refl, arith}
use Rattle.stack_state.proofs.Names.{Lsh, amount_word}
use Rattle.stack_state.proofs.ByteParts.{applied_to, small_shift}
use Rattle.stack_state.proofs.number.raised.Goals as goal

none : (w count : ℕ) → count ≡ 0 → w < 2 ^ 64 → w * 2 ^ (8 * count) % 2 ^ 64 ≡ w
none w count e lt = rw e (omega arith)

pub returns-then-count-eq0 : goal.returns-then-count-eq0
returns-then-count-eq0 c exact w h = rw (none w c.args.count (omega arith) (amount_word exact c.args.number w h)) h

pub returns : goal.returns
returns c exact w h = rw (small_shift c.args.count (omega arith)) at
    (applied_to exact Lsh c.args.number c.exact-moved.result c.apply.result w (8 * c.args.count) c.apply.ensures.sound c.apply.ensures.single c.exact-moved.ensures.alone c.exact-moved.ensures.single h)
