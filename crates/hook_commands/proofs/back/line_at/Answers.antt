use Rattle.std.proofs.Common.{arith}
use Rattle.hook_commands.proofs.Landing.{first_line, no_line, slot_inside}
use Rattle.hook_commands.proofs.back.line_at.Goals as goal

pub returns-in-empty-clause-value : goal.returns-in-empty-clause-value
returns-in-empty-clause-value c = no_line c.args.program.now c.args.slot _ c.in-empty.len_below (rw c.insns.ensures.value at c.in_ok-skip.ensures.rest)

pub returns-in-len1-up : goal.returns-in-len1-up
returns-in-len1-up c =
    let rest = rw c.insns.ensures.value at c.in_ok-skip.ensures.rest in
    let some = c.in-len1-up.len_at_least in
    record { value = first_line c.args.program.now c.args.slot _ _ some rest; few = omega (arith, slot_inside c.args.program.now c.args.slot _ some rest, c.insns.ensures.program.short) }
