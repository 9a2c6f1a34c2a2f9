use Rattle.event_loop.proofs.passing.is_handed_on.Goals as goal

pub returns-in-Reload-clause-reload : goal.returns-in-Reload-clause-reload
returns-in-Reload-clause-reload g c = λ yes. c.in-Reload.is

pub returns-in-Reload-clause-between : goal.returns-in-Reload-clause-between
returns-in-Reload-clause-between g c = c.is_between.ensures.between

pub returns-in-Reload-clause-apart : goal.returns-in-Reload-clause-apart
returns-in-Reload-clause-apart g c = λ no reload. c.is_between.ensures.apart no

pub returns-in_default-clause-apart : goal.returns-in_default-clause-apart
returns-in_default-clause-apart g c = λ no reload. absurd (c.in_default.not-Reload reload)
