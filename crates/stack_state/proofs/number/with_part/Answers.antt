use Rattle.std.proofs.Common.{ℕ, ◌≡◌, ◌≤◌, ◌+◌, ◌*◌, ◌-◌, ◌%◌, ◌^◌, ◌<◌, refl, arith, mod-eq_of_lt}
use Rattle.stack_state.proofs.Names.{Add, And, amount_word, word_with}
use Rattle.stack_state.proofs.ByteParts.{applied, applied_to, filled, mask_fits}
use Rattle.stack_state.proofs.number.with_part.Goals as goal

-- eight bytes are all
whole : (at count w x : ℕ) → at + count ≤ 8 → count ≡ 8 → w < 2 ^ 64 → x < 2 ^ 64 → word_with at count w x ≡ x
whole at count w x inside e small lt = let f : at ≡ 0 = omega arith in rw (e, f) (omega arith)

pub returns-then-count-eq8 : goal.returns-then-count-eq8
returns-then-count-eq8 c exact w x h k = rw (whole c.args.at c.args.count w x c.requires.inside (omega arith) (amount_word exact c.args.number w h) (amount_word exact c.args.value x k)) k

pub returns : goal.returns
returns c exact w x h k =
    let at : ℕ = c.args.at in
    let m : ℕ = c.greatest_of_bytes.result in
    let small = amount_word exact c.args.number w h in
    let is : 2 ^ 64 - 1 - m * 2 ^ (8 * at) % 2 ^ 64 ≡ 2 ^ 64 - 1 - m * 2 ^ (8 * at) = rw (mod-eq_of_lt (mask_fits at c.args.count w w m c.requires.inside small c.greatest_of_bytes.ensures)) refl in
    let kept = rw is at (applied_to exact And c.args.number c.exact-kept.result c.apply-others.result w (2 ^ 64 - 1 - m * 2 ^ (8 * at) % 2 ^ 64) c.apply-others.ensures.sound c.apply-others.ensures.single c.exact-kept.ensures.alone c.exact-kept.ensures.single h) in
    rw (filled at c.args.count w x m c.requires.inside small c.greatest_of_bytes.ensures) at
    (applied exact Add c.apply-others.result c.raised-placed.result c.apply.result _ _ c.apply.ensures.sound c.apply.ensures.single kept (c.raised-placed.ensures exact (x % 2 ^ (8 * c.args.count)) (c.low.ensures exact x k)))
