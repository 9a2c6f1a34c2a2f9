use Rattle.std.proofs.Common.{arith}
use Rattle.std.proofs.lemmas.Str.{utf8_valid_len-IsUtf8}
use Rattle.reports.proofs.told_line.text_in.Goals as goal

pub returns-in-Ok : goal.returns-in-Ok
returns-in-Ok c = grind (arith, c.in-Ok.ensures.cases.0, utf8_valid_len-IsUtf8 c.args.bytes.now c.in-Ok.ensures.cases.1)
