use Rattle.std.proofs.Common.{◌≡◌, Some, codes, sym, ap, ◌∙◌}
use Rattle.std.proofs.lemmas.Slice.Eq.{bytes_eq-Decides}
use Rattle.transcript.proofs.Drawing.{minus}
use Rattle.transcript.proofs.piece.draws.Goals as goal

pub returns-then-eq-clause-only : goal.returns-then-eq-clause-only
returns-then-eq-clause-only c other spelled =
    let is_minus : c.args.word.now ≡ codes "-" = (bytes_eq-Decides c.args.word.now (codes "-")).0 (sym c.if-eq.ensures) in
    ap Some (c.new.ensures.items ∙ sym (minus c.args.word.now other is_minus spelled))
