use Rattle.std.proofs.Common.{◌≡◌, ◌<◌, arith}
use Rattle.stack_state.proofs.stack.value_at.Goals.{else-span-via-then-span+else-behind-lt8, else-span-via-else-span}
use Rattle.stack_state.proofs.stack.value_at.Goals as goal

pub returns-else-span : goal.returns-else-span
returns-else-span c = record {
  certain = λ e lt. absurd (no e lt);
  uncertain = λ apart. c.any.ensures;
} where
  no : c.args.span.least ≡ c.args.span.greatest → c.args.behind < 8 → ⊥
  no e lt = elim c.else-span.branch [ else-span-via-then-span+else-behind-lt8 w ↦ omega arith | else-span-via-else-span w ↦ omega arith ]
