use Rattle.std.proofs.Common.{◌%◌, ◌^◌, ap, sym, ◌∙◌}
use Rattle.range.proofs.Names.{true≢false, W32, W64, B32, word_extended, word_in_width, word_result_fits, word_extended_fits}
use Rattle.range.proofs.LowHalves.{by_low, told_low, alike_low, shifted_low, divided_low, extended_low}
use Rattle.range.proofs.half.HalfRange.apply.Goals as goal

pub returns-then-is_told : goal.returns-then-is_told
returns-then-is_told c =
    let told = sym c.is_told.ensures ∙ c.if-is_told.true in
    let all = by_low c.args.op c.args.width c.args.a c.args.b c.by_words.result _ c.by_words.ensures (λ x y hy.
    told_low c.args.op c.args.width x y (word_extended W64 B32 x) (word_extended W64 B32 y) told hy (word_extended_fits W64 B32 y) (extended_low x) (extended_low y)) in
    record { sound = all.has; single = λ determined. all.single }

pub returns-in-Lsh : goal.returns-in-Lsh
returns-in-Lsh c =
    let all = by_low c.args.op W32 c.args.a c.args.b c.shifted.result _ c.shifted.ensures (λ x y hy. shifted_low c.args.op c.in-Lsh.is x y) in
    rw c.in-W32.is (record { sound = all.has; single = λ determined. all.single })

pub returns-in-Sdiv : goal.returns-in-Sdiv
returns-in-Sdiv c =
    let all = by_low c.args.op W32 c.args.a c.args.b c.by_words-in-Sdiv.result _ c.by_words-in-Sdiv.ensures (λ x y hy. divided_low c.args.op c.in-Sdiv.is x y) in
    rw c.in-W32.is (record { sound = all.has; single = λ determined. all.single })

pub returns-in_default : goal.returns-in_default
returns-in_default c =
    let all = by_low c.args.op W32 c.args.a c.args.b c.by_words-in_default.result _ (rw c.in-W32.is at c.by_words-in_default.ensures) (λ x y hy. ap (λ n. n % 2 ^ 32) (sym (alike_low c.args.op x y _ _ (extended_low x) (extended_low y)))) in
    rw c.in-W32.is (record { sound = all.has; single = λ determined. all.single })

pub returns-in-W64-clause-sound : goal.returns-in-W64-clause-sound
returns-in-W64-clause-sound c x y hx hy =
    c.any.ensures _ (word_in_width c.args.width _ (word_result_fits c.args.width c.args.op x y hx.word hy.word))

pub returns-in-W64-clause-single : goal.returns-in-W64-clause-single
returns-in-W64-clause-single c determined x y hx hy ha hb =
    absurd (true≢false (sym (rw c.in-W64.is at determined) ∙ sym (rw c.in-W64.is at c.is_told.ensures) ∙ c.if-is_told.false))
