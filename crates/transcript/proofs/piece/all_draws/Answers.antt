use Rattle.std.proofs.Common.{sym, ◌∙◌}
use Rattle.transcript.proofs.Drawing.{draws_nothing, same_draws}
use Rattle.transcript.proofs.piece.all_draws.Goals as goal

pub returns-in_default-clause-only : goal.returns-in_default-clause-only
returns-in_default-clause-only c other all =
    absurd (draws_nothing c.args.words.now c.loop-word.word-index _ c.loop-word-test.true (sym c.draws_of.ensures ∙ c.in_default.is) other all)

pub returns-clause-only : goal.returns-clause-only
returns-clause-only c other all = same_draws c.args.words.now c.loop-word.word-index c.loop-word.all.items other c.loop-word-test.false c.loop-word.invariant all
