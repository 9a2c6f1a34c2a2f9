use Rattle.lister.proofs.Lines.{line_is}
use Rattle.lister.proofs.line.LineDisplay.fmt.Goals as goal

pub returns-clause-writes : goal.returns-clause-writes
returns-clause-writes g c plain ok = rw (c.of-mnemonic.ensures, c.action.ensures, line_is c.args.self.now.0) at (c.write.ensures.writes plain ok)
