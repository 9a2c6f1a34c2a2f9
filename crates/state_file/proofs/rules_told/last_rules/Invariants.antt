use Rattle.std.proofs.Common.{◌≡◌, take}
use Rattle.state_file.proofs.Names.{option_copied, lists, last_rules}
use Rattle.state_file.proofs.rules_told.last_rules.Given as goal

abbrev pub invariant-loop-batch : goal.invariant-loop-batch
invariant-loop-batch l = option_copied l.last ≡ last_rules (lists (take l.batch-index l.batches))
