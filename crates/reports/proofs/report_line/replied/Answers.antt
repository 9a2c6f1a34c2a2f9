use Rattle.std.proofs.Common.{append_assoc}
use Rattle.reports.proofs.report_line.replied.Goals as goal

pub returns : goal.returns
returns c = simp append_assoc at (rw (c.in_ok-number-8.ensures, c.in_ok-number-7.ensures, c.in_ok-number-6.ensures, c.in_ok-number-5.ensures, c.in_ok-number-4.ensures, c.in_ok-number-3.ensures, c.in_ok-number-2.ensures, c.in_ok-number.ensures, c.in_ok-begin.ensures) at c.end.ensures)
