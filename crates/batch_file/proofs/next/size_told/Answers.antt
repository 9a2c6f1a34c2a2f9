use Rattle.std.proofs.Common.{sym, ◌∙◌}
use Rattle.batch_file.proofs.Picking.{told_is}
use Rattle.batch_file.proofs.next.size_told.Goals as goal

pub returns : goal.returns
returns c = c.from_be_bytes.ensures ∙ sym (told_is c.args.head.now c.requires)
