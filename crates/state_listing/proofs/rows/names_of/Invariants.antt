use Rattle.std.proofs.Common.{◌≡◌, ◌++◌, length, map}
use Rattle.rules_codec.specs.Facts.{rules_fact}
use Rattle.params.specs.Scope.{names_in_mask}
use Rattle.state_listing.proofs.rows.names_of.Given as goal

abbrev pub decreases-loop-rest : goal.decreases-loop-rest
decreases-loop-rest l = length l.rest

abbrev pub invariant-loop-rest : goal.invariant-loop-rest
invariant-loop-rest l = map (λ s. s.now) l.names.items ++ names_in_mask (map (λ s. s.now) l.rest) l.left ≡ names_in_mask (rules_fact l.rules).scopes l.fn.scope
