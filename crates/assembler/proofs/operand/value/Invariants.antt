use Rattle.std.proofs.Common.{◌≡◌, drop}
use Rattle.assembler.specs.Operands.{number_from, decimal_value}
use Rattle.assembler.proofs.operand.value.Given as goal

abbrev pub invariant-loop-digit : goal.invariant-loop-digit
invariant-loop-digit l = decimal_value l.digits ≡ number_from l.number (drop l.digit-index l.digits)
