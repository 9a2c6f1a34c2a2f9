use Rattle.std.proofs.Common.{rules}
use Rattle.serving.specs.Served.{goes, hears, refuses, loses_time, breaks, finishes}
use Rattle.serving.proofs.Pieces.{piece_comes, piece_fits}
use Rattle.serving.proofs.serve.hear.Goals as goal

pub returns-in_default : goal.returns-in_default
returns-in_default g c = λ n few first run. goes run (breaks n few c.requires.attentive c.in_default.ensures.done)

pub returns-then-count-eq0 : goal.returns-then-count-eq0
returns-then-count-eq0 g c = λ n few first run. goes run (finishes n few c.requires.attentive (rw c.if-count-eq0.true at c.in-Ok.ensures.done))

pub returns-in_default-now : goal.returns-in_default-now
returns-in_default-now g c = λ n few first run.
    rw c.of_next-draws.ensures.behind
    (goes run (loses_time n _ few c.requires.attentive (piece_comes _ _ (search rules) c.in-Ok.ensures.within.0) (piece_fits _ _ (search rules)) c.in-Ok.ensures.done c.in_default-now.ensures))

pub returns-in-Err : goal.returns-in-Err
returns-in-Err g c = λ n few first run.
    let refused = rw c.of_next-draws.ensures.next at c.in-Err.ensures.refused in
    rw (c.in-Err.ensures.err, c.of_next-draws.ensures.behind)
    (goes run (refuses n _ _ c.in-Err.fault few c.requires.attentive (piece_comes _ _ (search rules) c.in-Ok.ensures.within.0) (piece_fits _ _ (search rules)) c.in-Ok.ensures.done c.in-Some.ensures refused))

pub returns : goal.returns
returns g c = λ n few first run.
    rw c.of_next-draws.ensures.behind
    (goes run (hears n _ _ few c.requires.attentive (piece_comes _ _ (search rules) c.in-Ok.ensures.within.0) (piece_fits _ _ (search rules)) c.in-Ok.ensures.done c.in-Some.ensures (rw (c.of_next-draws.ensures.next, c.nobody-nobody.ensures) at c.in_default-hear.ensures.given)))
