use Rattle.std.proofs.Common.{◌≡◌, ◌≢◌, ℕ, length, take, unwrap_or, rules, tests, sym, ap, ◌∙◌, refl, arith, take_all}
use Rattle.std.proofs.lemmas.Iterator.{YieldsList-from_slice, IsFirst-from_position, index_from_first}
use Rattle.assembly.specs.Text.{before_comment}
use Rattle.assembler.proofs.Lines.{before_comment_end, comment_hit, comment_miss}
use Rattle.assembler.proofs.line.before_comment.Goals as goal

pub returns-in-Some : goal.returns-in-Some
returns-in-Some c =
    let first = IsFirst-from_position _ _ c.position.result (λ x. x ≡ 59) (λ x. x ≢ 59) c.position.ensures.ran (YieldsList-from_slice c.args.line.now cc) (λ x q k. search (rules, tests)) (λ x q k. search (rules, tests)) in
    let at = index_from_first (λ xs. length (before_comment xs)) (λ x. x ≡ 59) (λ x. x ≢ 59) refl comment_hit comment_miss c.args.line.now c.position.result first in
    let same : length (before_comment c.args.line.now) ≡ c.in-Some.end = at ∙ ap (λ o. unwrap_or o (length c.args.line.now)) c.in-Some.is in
    sym (before_comment_end c.args.line.now ∙ ap (λ (n : ℕ). take n c.args.line.now) same)

pub returns-in-None : goal.returns-in-None
returns-in-None c =
    let first = IsFirst-from_position _ _ c.position.result (λ x. x ≡ 59) (λ x. x ≢ 59) c.position.ensures.ran (YieldsList-from_slice c.args.line.now cc) (λ x q k. search (rules, tests)) (λ x q k. search (rules, tests)) in
    let at = index_from_first (λ xs. length (before_comment xs)) (λ x. x ≡ 59) (λ x. x ≢ 59) refl comment_hit comment_miss c.args.line.now c.position.result first in
    let same : length (before_comment c.args.line.now) ≡ length c.args.line.now = at ∙ ap (λ o. unwrap_or o (length c.args.line.now)) c.in-None.is in
    sym (before_comment_end c.args.line.now ∙ ap (λ (n : ℕ). take n c.args.line.now) same ∙ take_all _ c.args.line.now (omega arith))
