use Rattle.std.proofs.Common.{◌∙◌}
use Rattle.verifier.proofs.Steps.{learns, never_answered}
use Rattle.verifier.proofs.known.Known.learn_of_two.Goals as goal

pub returns-in-Some-clause-kept : goal.returns-in-Some-clause-kept
returns-in-Some-clause-kept c =
    learns c.args.self.now c.args.test c.args.answer c.operand.result c.operand.ensures c.set.new.self c.in-Some.left c.in-Some.right (rw c.register.ensures at c.in-Some.ensures.right) c.set_operand.ensures.eleven
    (rw c.set_operand.ensures.registers at c.set.ensures.registers) (c.set.ensures.stack ∙ c.set_operand.ensures.stack) (c.set.ensures.links ∙ c.set_operand.ensures.links)

pub returns-in-None-clause-kept : goal.returns-in-None-clause-kept
returns-in-None-clause-kept c = never_answered c.args.self.now c.args.test c.args.answer c.operand.result c.operand.ensures (rw c.register.ensures at c.in-None.ensures.right)

pub returns-in-Some-clause-compared : goal.returns-in-Some-clause-compared
returns-in-Some-clause-compared c e = record {
  right = c.operand.result;
  operand = c.operand.ensures;
  both = (c.in-Some.left, c.in-Some.right);
  refined = rw c.register.ensures at c.in-Some.ensures.kinds;
  registers = rw c.set_operand.ensures.registers at c.set.ensures.registers;
  stack = c.set.ensures.stack ∙ c.set_operand.ensures.stack;
  links = c.set.ensures.links ∙ c.set_operand.ensures.links;
}
