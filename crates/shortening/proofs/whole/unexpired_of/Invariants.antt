use Rattle.std.proofs.Common.{take}
use Rattle.change_codec.specs.Spelling.{dated_facts}
use Rattle.shortening.specs.Known.{NotesUnexpired}
use Rattle.shortening.proofs.whole.unexpired_of.Given as goal

abbrev pub invariant-loop-dated : goal.invariant-loop-dated
invariant-loop-dated l = NotesUnexpired l.noted (dated_facts (take l.dated-index l.changes)) l.moment
