use Rattle.transcript.proofs.Stating.{five_words, same_words}
use Rattle.transcript.proofs.line.of_words.Goals as goal

pub returns-in-len5-clause-only : goal.returns-in-len5-clause-only
returns-in-len5-clause-only c = same_words c.of_piece.result _ _ (five_words c.args.words.now _ c.in-len5.len_at_least c.in-len5.len_below) c.of_piece.ensures.only
