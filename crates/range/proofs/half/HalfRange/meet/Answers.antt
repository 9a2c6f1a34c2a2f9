use Rattle.std.proofs.Common.{ℕ, ◌^◌, arith}
use Rattle.range.proofs.Names.{W32, signed_place}
use Rattle.range.proofs.Places.{within_fits}
use Rattle.range.proofs.half.HalfRange.meet.Goals as goal

pub returns-in_err-meet : goal.returns-in_err-meet
returns-in_err-meet c = rw c.from_residual.ensures (rw (c.places.ensures.is, c.places-2.ensures.is) at (c.in_err-meet.ensures (signed_place W32)))

pub of_places-requires : goal.of_places-requires
of_places-requires c = within_fits _ c.places.result (2 ^ 32) (omega arith) (omega arith) c.places.ensures.fits (λ x h. ((c.in_ok-meet.ensures (λ (n : ℕ). n) x).0 h).0)

pub returns : goal.returns
returns c = rw (c.places.ensures.is, c.places-2.ensures.is, ← c.of_places.ensures) at (c.in_ok-meet.ensures (signed_place W32))
