use Rattle.std.proofs.Common.{◌-◌, ◌≤◌, ◌∙◌, ℕ, length, arith, sym, subst}
use Rattle.std.proofs.lemmas.Bool.{leb-true}
use Rattle.batch_file.proofs.Going.{length_decides, mark_decides}
use Rattle.batch_file.proofs.Picking.{told_is}
use Rattle.batch_file.proofs.walk.is_decided.Goals as goal

pub returns-then-mark-clause-yes : goal.returns-then-mark-clause-yes
returns-then-mark-clause-yes c = λ so last more none. mark_decides last c.args.bytes.now more (omega (arith, c.if-bytes-lt21.false)) c.if-mark.true

pub returns-clause-yes : goal.returns-clause-yes
returns-clause-yes c = λ so last more none.
    let bytes = c.args.bytes.now in
    length_decides last bytes more (omega (arith, c.if-bytes-lt21.false)) (subst (λ (k : ℕ). k ≤ length bytes - 21) (c.from_be_bytes-size.ensures ∙ sym (told_is bytes (omega (arith, c.if-bytes-lt21.false)))) (leb-true c.from_be_bytes-size.result (length bytes - 21) so)) none
