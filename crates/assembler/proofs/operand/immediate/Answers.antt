use Rattle.std.proofs.Common.{w32}
use Rattle.assembler.proofs.Numbers.{other, small_from_32, through_64}
use Rattle.assembler.proofs.operand.immediate.Goals as goal

pub returns-clause-none : goal.returns-clause-none
returns-clause-none c =
    let y = c.in_ok-number.ensures.some in other w32 small_from_32 c.try_from.result c.ok.result c.args.word.now _ c.in_ok-number.field-0 (through_64 c.in_ok-number.field-0 y.1) y c.try_from.ensures c.ok.ensures.value
