use Rattle.std.proofs.Common.{◌≡◌, get_or}
use Rattle.stack_state.specs.declared.mark.Mark.TheVariants.{Unset}
use Rattle.stack_state.specs.Joins.{common_mark}
use Rattle.stack_state.proofs.Written.{DoneTo}
use Rattle.stack_state.proofs.bytes.common_marks.Given as goal

abbrev pub invariant-loop-j : goal.invariant-loop-j
invariant-loop-j l = DoneTo Unset (λ j m. m ≡ common_mark (get_or l.marks j Unset) (get_or l.others j Unset)) 8 0 l.marks l.new l.j
