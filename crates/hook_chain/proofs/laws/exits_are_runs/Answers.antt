use Rattle.hook_chain.specs.ExitLaws.{exits_are_runs}
use Rattle.hook_chain.proofs.laws.exits_are_runs.Goals as goal

-- src/laws.rt:12:1
pub returns : goal.returns
returns c = exits_are_runs
