use Rattle.std.proofs.Common.{◌≡◌, ◌++◌, drop, map}
use Rattle.hook_host.specs.Verdicts.{verdict_in}
use Rattle.reports.specs.ToldTokens.{verdicts_tokens}
use Rattle.reports.proofs.told_line.verdicts.Given as goal

-- what is written and what is still to be written is all that there is to write
abbrev pub invariant-loop-kept : goal.invariant-loop-kept
invariant-loop-kept l =
    l.line.json.tokens ++ verdicts_tokens l.rules l.before (map verdict_in (drop l.kept-index l.entries))
    ≡ l.fn.line.json.tokens ++ verdicts_tokens l.rules l.fn.before (map verdict_in l.entries)
