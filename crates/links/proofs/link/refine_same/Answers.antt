use Rattle.links.proofs.Names.{W64}
use Rattle.links.proofs.Linked.{same_holds}
use Rattle.links.proofs.link.refine_same.Goals as goal

pub returns-in_err-held-clause-right : goal.returns-in_err-held-clause-right
returns-in_err-held-clause-right c = rw c.from_residual.ensures (λ x s h. c.in_err-held.ensures.right x x h s (same_holds W64 x))

pub returns-in_err-stored-clause-right : goal.returns-in_err-stored-clause-right
returns-in_err-stored-clause-right c =
    rw c.from_residual-in_err-stored.ensures (λ x s h. c.in_err-stored.ensures.right x x s (c.in_ok-held.ensures.right x x h s (same_holds W64 x)) (same_holds W64 x))

pub returns-clause-right : goal.returns-clause-right
returns-clause-right c x s h =
    let held = c.in_ok-held.ensures.right x x h s (same_holds W64 x) in
    (c.in_ok-stored.ensures.right x x s held (same_holds W64 x), held)
