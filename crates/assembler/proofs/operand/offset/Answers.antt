use Rattle.std.proofs.Common.{w16}
use Rattle.assembler.proofs.Numbers.{other, small_from_16, through_64}
use Rattle.assembler.proofs.operand.offset.Goals as goal

pub returns-clause-none : goal.returns-clause-none
returns-clause-none c =
    let y = c.in_ok-number.ensures.some in other w16 small_from_16 c.try_from.result c.ok.result c.args.word.now _ c.in_ok-number.field-0 (through_64 c.in_ok-number.field-0 y.1) y c.try_from.ensures c.ok.ensures.value
