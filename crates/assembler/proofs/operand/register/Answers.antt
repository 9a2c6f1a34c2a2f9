use Rattle.std.proofs.Common.{rules, ◌≡◌, ◌<◌, ◌∷◌}
use Rattle.assembler.proofs.Numbers.{no_register, none_given}
use Rattle.assembler.proofs.operand.register.Goals as goal

pub returns-in_ok-natural-in-Some-eq114-default-clause-none : goal.returns-in_ok-natural-in-Some-eq114-default-clause-none
returns-in_ok-natural-in-Some-eq114-default-clause-none c =
    let w : c.args.word.now ≡ 114 ∷ c.in-Some-eq114-default.digits.now = search rules in
    none_given c.from_number.result
    (λ e. let far : 10 < c.in_ok-natural-in-Some-eq114-default.field-0 = search rules in
    no_register c.args.word.now c.in-Some-eq114-default.digits.now c.in_ok-natural-in-Some-eq114-default.field-0 w (search rules) (search rules) far)
