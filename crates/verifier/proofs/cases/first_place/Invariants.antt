use Rattle.std.proofs.Common.{◌≡◌, [], take}
use Rattle.verifier.proofs.Waits.{cases_of}
use Rattle.verifier.proofs.cases.first_place.Given as goal

abbrev pub invariant-loop-i : goal.invariant-loop-i
invariant-loop-i l = cases_of (take l.i l.places) ≡ []
