use Rattle.std.proofs.Common.{take}
use Rattle.change_codec.specs.Spelling.{dated_facts}
use Rattle.shortening.specs.Steps.{IsListing}
use Rattle.shortening.proofs.whole.known_of.Given as goal

abbrev pub invariant-loop-dated : goal.invariant-loop-dated
invariant-loop-dated l = IsListing l.listing (dated_facts l.changes) l.fn.moment (dated_facts (take l.dated-index l.changes))
