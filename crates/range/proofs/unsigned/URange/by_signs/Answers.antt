use Rattle.std.proofs.Common.{ℕ, ◌<◌, arith}
use Rattle.range.proofs.Names.{W64, modulus}
use Rattle.range.proofs.Places.{reached, turned_back, within_fits}
use Rattle.range.proofs.Refinements.{placed_answer}
use Rattle.range.proofs.unsigned.URange.by_signs.Goals as goal

pub returns-in_err-left-in-Some-clause-kept : goal.returns-in_err-left-in-Some-clause-kept
returns-in_err-left-in-Some-clause-kept c = rw c.from_residual.ensures (λ x y hx hy e.
    (c.in_err-left-in-Some.ensures W64).kept (λ (n : ℕ). n) (reached c.turned.result (omega arith)) (reached c.turned-in-Some.result (omega arith)) _ _
    (c.turned.ensures.has x hx) (c.turned-in-Some.ensures.has y hy)
    (placed_answer c.args.cond c.in-Some.order c.args.width c.args.taken x y c.in-Some.ensures (omega (arith, hx.below)) (omega (arith, hy.below)) e))

pub turned-requires-in-Some-2 : goal.turned-requires-in-Some-2
turned-requires-in-Some-2 c =
    within_fits c.in_ok-left-in-Some.left c.turned.result (modulus c.args.width) (omega arith) (omega arith) c.turned.ensures.fits
    ((c.in_ok-left-in-Some.ensures W64).within (λ (n : ℕ). n) (reached c.turned.result (omega arith)) (reached c.turned-in-Some.result (omega arith))).0

pub turned-requires-in-Some-3 : goal.turned-requires-in-Some-3
turned-requires-in-Some-3 c =
    within_fits c.in_ok-left-in-Some.right c.turned-in-Some.result (modulus c.args.width) (omega arith) (omega arith) c.turned-in-Some.ensures.fits
    ((c.in_ok-left-in-Some.ensures W64).within (λ (n : ℕ). n) (reached c.turned.result (omega arith)) (reached c.turned-in-Some.result (omega arith))).1

pub returns-in_err-left-in-Some-2-clause-kept : goal.returns-in_err-left-in-Some-2-clause-kept
returns-in_err-left-in-Some-2-clause-kept c = rw c.from_residual-in_err-left-in-Some-2.ensures (λ x y hx hy e.
    let fits : x < modulus c.args.width = omega (arith, hx.below) in
    let kept = (c.in_ok-left-in-Some.ensures W64).kept (λ (n : ℕ). n) (reached c.turned.result (omega arith)) (reached c.turned-in-Some.result (omega arith)) _ _
    (c.turned.ensures.has x hx) (c.turned-in-Some.ensures.has y hy)
    (placed_answer c.args.cond c.in-Some.order c.args.width c.args.taken x y c.in-Some.ensures fits (omega (arith, hy.below)) e) in
    c.in_err-left-in-Some-2.ensures (λ (n : ℕ). n) x hx (rw (turned_back c.args.width x fits) at (c.turned-in-Some-2.ensures.has _ kept.0)))

pub returns-in_err-right-in-Some-clause-kept : goal.returns-in_err-right-in-Some-clause-kept
returns-in_err-right-in-Some-clause-kept c = rw c.from_residual-in_err-right-in-Some.ensures (λ x y hx hy e.
    let fits : y < modulus c.args.width = omega (arith, hy.below) in
    let kept = (c.in_ok-left-in-Some.ensures W64).kept (λ (n : ℕ). n) (reached c.turned.result (omega arith)) (reached c.turned-in-Some.result (omega arith)) _ _
    (c.turned.ensures.has x hx) (c.turned-in-Some.ensures.has y hy)
    (placed_answer c.args.cond c.in-Some.order c.args.width c.args.taken x y c.in-Some.ensures (omega (arith, hx.below)) fits e) in
    c.in_err-right-in-Some.ensures (λ (n : ℕ). n) y hy (rw (turned_back c.args.width y fits) at (c.turned-in-Some-3.ensures.has _ kept.1)))

pub returns-in_ok-right-in-Some-clause-kept : goal.returns-in_ok-right-in-Some-clause-kept
returns-in_ok-right-in-Some-clause-kept c x y hx hy e =
    let left : x < modulus c.args.width = omega (arith, hx.below) in
    let right : y < modulus c.args.width = omega (arith, hy.below) in
    let kept = (c.in_ok-left-in-Some.ensures W64).kept (λ (n : ℕ). n) (reached c.turned.result (omega arith)) (reached c.turned-in-Some.result (omega arith)) _ _
    (c.turned.ensures.has x hx) (c.turned-in-Some.ensures.has y hy)
    (placed_answer c.args.cond c.in-Some.order c.args.width c.args.taken x y c.in-Some.ensures left right e) in (
      (c.in_ok-left-in-Some-2.ensures (λ (n : ℕ). n) x).1 (hx, rw (turned_back c.args.width x left) at (c.turned-in-Some-2.ensures.has _ kept.0)),
      (c.in_ok-right-in-Some.ensures (λ (n : ℕ). n) y).1 (hy, rw (turned_back c.args.width y right) at (c.turned-in-Some-3.ensures.has _ kept.1)),
    )

pub returns-in_ok-right-in-Some-clause-within : goal.returns-in_ok-right-in-Some-clause-within
returns-in_ok-right-in-Some-clause-within c = (
  λ x h. ((c.in_ok-left-in-Some-2.ensures (λ (n : ℕ). n) x).0 h).0,
  λ y h. ((c.in_ok-right-in-Some.ensures (λ (n : ℕ). n) y).0 h).0,
)
