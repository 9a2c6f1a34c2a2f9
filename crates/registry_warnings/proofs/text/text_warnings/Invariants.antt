use Rattle.std.proofs.Common.{◌≡◌, ◌++◌, [], length, string_bytes}
use Rattle.json.specs.Lex.{tokens}
use Rattle.registry_warnings.specs.Warnings.{warnings}
use Rattle.registry_warnings.proofs.text.text_warnings.Given as goal

abbrev pub invariant-loop-token : goal.invariant-loop-token
invariant-loop-token l = string_bytes l.lines ++ warnings l.objects l.reader ≡ warnings [] (tokens l.text)

abbrev pub decreases-loop-token : goal.decreases-loop-token
decreases-loop-token l = length l.reader
