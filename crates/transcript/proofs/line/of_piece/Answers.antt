use Rattle.std.proofs.Common.{◌≡◌, ℕ, List, None, Some}
use Rattle.transcript.proofs.Names.{Draws, SpellsDraws, SpellsPiece}
use Rattle.transcript.proofs.Stating.{no_draws, same_piece}
use Rattle.transcript.proofs.line.of_piece.Goals as goal

pub returns-in_default-2-clause-only : goal.returns-in_default-2-clause-only
returns-in_default-2-clause-only c other states =
    let only : (d : List Draws) → SpellsDraws c.args.drawn.now d → None ≡ Some d = λ d h. rw c.in_default-2.is at (c.in_ok-draws.ensures.only d h) in
    no_draws c.args.name.now c.args.number.now c.args.seconds.now c.args.drawn.now c.args.hex.now other only states

pub returns-clause-only : goal.returns-clause-only
returns-clause-only c other states =
    let only_draws : (d : List Draws) → SpellsDraws c.args.drawn.now d → Some c.in-Some-2.draws.items ≡ Some d = λ d h. rw c.in-Some-2.is at (c.in_ok-draws.ensures.only d h) in
    let only_piece : (x : List ℕ) → SpellsPiece c.args.hex.now x → Some c.in-Some-3.piece.items ≡ Some x = λ x h. rw c.in-Some-3.is at (c.in_ok-piece.ensures.only x h) in
    same_piece c.args.name.now c.args.number.now c.args.seconds.now c.args.drawn.now c.args.hex.now _ _ _ _ other c.in-Some.ensures.only c.in-Some-moment.ensures.only only_draws only_piece states
