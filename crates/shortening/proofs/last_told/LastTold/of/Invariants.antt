use Rattle.std.proofs.Common.{take}
use Rattle.change_codec.specs.Spelling.{dated_facts}
use Rattle.shortening.specs.Steps.{TellsLast}
use Rattle.shortening.proofs.last_told.LastTold.of.Given as goal

abbrev pub invariant-loop-dated : goal.invariant-loop-dated
invariant-loop-dated l = TellsLast l.told (dated_facts (take l.dated-index l.changes))
