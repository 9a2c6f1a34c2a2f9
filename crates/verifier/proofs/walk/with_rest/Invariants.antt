use Rattle.std.proofs.Common.{◌≡◌, ◌++◌, length, map}
use Rattle.std.specs.Box.{box_value}
use Rattle.verifier.proofs.walk.with_rest.Given as goal

abbrev pub decreases-loop-one : goal.decreases-loop-one
decreases-loop-one l = length l.rest

abbrev pub invariant-loop-one : goal.invariant-loop-one
invariant-loop-one l = map box_value l.known.items ++ l.rest ≡ map box_value l.initial.known.items ++ l.initial.rest
