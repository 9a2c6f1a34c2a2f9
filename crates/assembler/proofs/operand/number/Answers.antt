use Rattle.std.proofs.Common.{rules, ◌≡◌, length}
use Rattle.assembler.proofs.Numbers.{nothing_signed}
use Rattle.assembler.proofs.operand.number.Goals as goal

pub returns-in-None-clause-none : goal.returns-in-None-clause-none
returns-in-None-clause-none c = let h : length c.args.word.now ≡ 0 = search rules in nothing_signed c.args.word.now h
