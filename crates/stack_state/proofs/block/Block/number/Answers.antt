use Rattle.std.proofs.Common.{◌≡◌, subst}
use Rattle.stack_state.proofs.Names.{AmountFits, Block, WordIn}
use Rattle.stack_state.proofs.ByteParts.{known}
use Rattle.stack_state.proofs.block.Block.number.Goals as goal

pub returns-in-Unset-clause-words : goal.returns-in-Unset-clause-words
returns-in-Unset-clause-words c exact w h =
    let none : w ≡ 0 = subst (λ (b : Block). WordIn (AmountFits exact) b w) c.in-Unset.is h in
    rw none (known exact c.exact.result 0 c.exact.ensures.alone c.exact.ensures.single)
