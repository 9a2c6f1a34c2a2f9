use Rattle.std.proofs.Common.{ap, not, ◌∙◌, sym, IsAscii}
use Rattle.params.proofs.Replaced.{contains_is, ascii_has_none}
use Rattle.params.proofs.params.has_replacement.Goals as goal

pub returns-then-not-is_ascii : goal.returns-then-not-is_ascii
returns-then-not-is_ascii c = contains_is c.contains.result c.args.text.now c.contains.ensures.cases

pub returns-else-not-is_ascii : goal.returns-else-not-is_ascii
returns-else-not-is_ascii c =
    let ascii : IsAscii c.args.text.now = rw c.if-not-is_ascii.false at c.is_ascii.ensures.cases in
    ap not c.if-not-is_ascii.false ∙ sym (ascii_has_none c.args.text.now ascii)
