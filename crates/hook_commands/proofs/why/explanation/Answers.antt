use Rattle.hook_commands.proofs.why.explanation.Goals as goal

pub returns-in_ok-refusal_told-in-Refused : goal.returns-in_ok-refusal_told-in-Refused
returns-in_ok-refusal_told-in-Refused c =
    (c.in-Refused.refusal, rw c.in-Refused.is at c.in_ok-unreached.ensures.finding, c.in_ok-refusal_told-in-Refused.ensures)
