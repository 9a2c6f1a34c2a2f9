use Rattle.std.proofs.Common.{take}
use Rattle.change_codec.specs.Spelling.{dated_facts}
use Rattle.narrowing.specs.Codes.{TellsCodes}
use Rattle.narrowing.proofs.changes.codes_in.Given as goal

abbrev pub invariant-loop-dated : goal.invariant-loop-dated
invariant-loop-dated l = TellsCodes (record { rules = l.fn.rules; owners = l.fn.owners }) (dated_facts (take l.dated-index l.changes)) l.codes.entries
