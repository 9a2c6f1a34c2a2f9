use Rattle.std.proofs.Common.{rules}
use Rattle.std.proofs.lemmas.Fmt.{parse-decimal}
use Rattle.transcript.proofs.number.natural.Goals as goal

pub returns-in_err-number-clause-only : goal.returns-in_err-number-clause-only
returns-in_err-number-clause-only c n below same = let parsed = parse-decimal 64 n c.args.word.now _ below below same c.parse.ensures.value.0 in search rules

pub returns-then-eq-clause-only : goal.returns-then-eq-clause-only
returns-then-eq-clause-only c n below same = let parsed = parse-decimal 64 n c.args.word.now _ below below same c.parse.ensures.value.0 in search rules

pub returns-else-eq-clause-only : goal.returns-else-eq-clause-only
returns-else-eq-clause-only c n below same = let parsed = parse-decimal 64 n c.args.word.now _ below below same c.parse.ensures.value.0 in search rules
