use Rattle.std.proofs.Common.{ℕ, ◌^◌, arith}
use Rattle.range.proofs.Names.{W32, W64, HasAnswer, places_of}
use Rattle.range.proofs.Places.{reached, within_fits}
use Rattle.range.proofs.Refinements.{moved_least, placed_by}
use Rattle.range.proofs.half.HalfRange.answered.Goals as goal

pub returns-in_err-left-in-Some : goal.returns-in_err-left-in-Some
returns-in_err-left-in-Some c =
    let none = (placed_by c.args.cond c.in-Some.order W32 c.args.taken (places_of c.args.a) (places_of c.args.b) _ c.in-Some.ensures (omega arith) (omega arith)
    (rw (c.places.ensures.is, c.places-in-Some.ensures.is) at (c.in_err-left-in-Some.ensures W64))).kept in
    rw c.from_residual.ensures (record { kept = none; within = tt; least = λ orders. none })

pub of_places-requires : goal.of_places-requires
of_places-requires c =
    within_fits c.in_ok-left-in-Some.left c.places.result (2 ^ 32) (omega arith) (omega arith) c.places.ensures.fits
    ((c.in_ok-left-in-Some.ensures W64).within (λ (n : ℕ). n) (reached c.places.result (omega arith)) (reached c.places-in-Some.result (omega arith))).0

pub of_places-requires-in-Some : goal.of_places-requires-in-Some
of_places-requires-in-Some c =
    within_fits c.in_ok-left-in-Some.right c.places-in-Some.result (2 ^ 32) (omega arith) (omega arith) c.places-in-Some.ensures.fits
    ((c.in_ok-left-in-Some.ensures W64).within (λ (n : ℕ). n) (reached c.places.result (omega arith)) (reached c.places-in-Some.result (omega arith))).1

pub returns-in_ok-left-in-Some : goal.returns-in_ok-left-in-Some
returns-in_ok-left-in-Some c =
    let all = placed_by c.args.cond c.in-Some.order W32 c.args.taken (places_of c.args.a) (places_of c.args.b) _ c.in-Some.ensures (omega arith) (omega arith)
    (rw (c.places.ensures.is, c.places-in-Some.ensures.is, ← c.of_places.ensures, ← c.of_places-in-Some.ensures) at (c.in_ok-left-in-Some.ensures W64)) in
    record {
      kept = all.kept;
      within = all.within;
      least = λ orders. moved_least places_of W32 (HasAnswer W32 c.args.cond c.args.taken) c.args.a c.args.b c.of_places.result c.of_places-in-Some.result (all.least orders);
    }
