use Rattle.reports.proofs.report_line.report_text.Goals as goal

pub returns : goal.returns
returns c = rw (c.in_ok-state.ensures, c.in_ok-kept.ensures, c.in_ok-number-3.ensures, c.in_ok-wanted.ensures, c.in_ok-replied.ensures, c.in_ok-asked.ensures, c.in_ok-connections.ensures, c.in_ok-number-2.ensures, c.in_ok-number.ensures, c.in_ok-line.ensures, c.get.ensures.value) at c.finish.ensures
