use Rattle.std.proofs.Common.{rules, ◌≡◌, ◌∷◌, sym, ◌∙◌, None}
use Rattle.std.specs.Result.{result_ok}
use Rattle.assembler.proofs.Numbers.{plus_other, minus_distances, none_given}
use Rattle.assembler.proofs.operand.distance.Goals as goal

pub returns-in_ok-natural-in-Some-eq43-default-clause-none : goal.returns-in_ok-natural-in-Some-eq43-default-clause-none
returns-in_ok-natural-in-Some-eq43-default-clause-none c =
    let w : c.args.word.now ≡ 43 ∷ c.in-Some-eq43-default.digits.now = search rules in
    none_given c.ok.result
    (λ e. let none : result_ok c.try_from.result ≡ None = sym c.ok.ensures.value ∙ e in
    plus_other c.try_from.result c.args.word.now c.in-Some-eq43-default.digits.now c.in_ok-natural-in-Some-eq43-default.field-0 w (search rules) (search rules) c.try_from.ensures none)

pub returns-in-Some-eq45-default-clause-some : goal.returns-in-Some-eq45-default-clause-some
returns-in-Some-eq45-default-clause-some c =
    let w : c.args.word.now ≡ 45 ∷ c.in-Some-eq45-default.field-0-1.now = search rules in minus_distances c.immediate.result c.args.word.now c.in-Some-eq45-default.field-0-1.now w c.immediate.ensures.some
