use Rattle.std.proofs.Common.{append_assoc}
use Rattle.reports.proofs.report_line.connections.Goals as goal

pub returns : goal.returns
returns c = simp append_assoc at (rw (c.in_ok-number-2.ensures, c.in_ok-number.ensures, c.in_ok-begin.ensures) at c.end.ensures)
