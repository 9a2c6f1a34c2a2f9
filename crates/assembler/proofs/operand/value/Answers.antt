use Rattle.std.proofs.Common.{rules, arith, ◌≤◌, ◌^◌}
use Rattle.assembler.specs.Operands.{decimal_value}
use Rattle.assembler.proofs.Numbers.{step_at_least, if_none}
use Rattle.assembler.proofs.operand.value.Goals as goal

pub returns-in_err-checked_mul-clause-none : goal.returns-in_err-checked_mul-clause-none
returns-in_err-checked_mul-clause-none c =
    let h = step_at_least c.loop-digit.number c.loop-digit.digit-index c.args.digits.now 0 (search rules) in
    let big : 2 ^ 64 ≤ decimal_value c.args.digits.now = omega (arith, h, c.checked_mul.ensures) in if_none _ big

pub returns-in_err-number-clause-none : goal.returns-in_err-number-clause-none
returns-in_err-number-clause-none c =
    let h = step_at_least c.loop-digit.number c.loop-digit.digit-index c.args.digits.now 0 (search rules) in
    let big : 2 ^ 64 ≤ decimal_value c.args.digits.now = omega (arith, h, c.checked_add.ensures) in if_none _ big
