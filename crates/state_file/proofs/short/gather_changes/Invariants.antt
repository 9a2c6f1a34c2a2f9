use Rattle.std.proofs.Common.{◌≡◌, ◌++◌, take}
use Rattle.state_file.proofs.Names.{dated_facts}
use Rattle.state_file.proofs.short.gather_changes.Given as goal

abbrev pub invariant-loop-dated : goal.invariant-loop-dated
invariant-loop-dated l = l.batch.facts ≡ l.initial.batch.facts ++ dated_facts (take l.dated-index l.changes)
