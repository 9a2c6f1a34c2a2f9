use Rattle.std.proofs.Common.{◌≡◌, get_or}
use Rattle.stack_state.specs.declared.mark.Mark.TheVariants.{Unset}
use Rattle.stack_state.specs.Accesses.{touched}
use Rattle.stack_state.proofs.Written.{DoneTo}
use Rattle.stack_state.proofs.bytes.touched_marks.Given as goal

abbrev pub invariant-loop-j : goal.invariant-loop-j
invariant-loop-j l = DoneTo Unset (λ j m. m ≡ touched l.span (get_or l.marks j Unset)) 8 l.fn.from l.marks l.new l.j
