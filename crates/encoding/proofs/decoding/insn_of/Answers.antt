use Rattle.std.proofs.Common.{rules}
use Rattle.encoding.proofs.Spellings.{in_front}
use Rattle.encoding.proofs.decoding.insn_of.Goals as goal

pub returns-in_default : goal.returns-in_default
returns-in_default c = in_front _ _ _ (search rules) c.one_slot.ensures
