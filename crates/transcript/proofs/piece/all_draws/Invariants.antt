use Rattle.std.proofs.Common.{map, take}
use Rattle.transcript.specs.Pieces.{AllDraw}
use Rattle.transcript.proofs.piece.all_draws.Given as goal

-- the words so far are drawn
abbrev pub invariant-loop-word : goal.invariant-loop-word
invariant-loop-word l = AllDraw (map (λ word. word.now) (take l.word-index l.words)) l.all.items
