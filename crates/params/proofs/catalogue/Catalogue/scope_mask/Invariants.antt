use Rattle.std.proofs.Common.{◌≡◌, List, ℕ}
use Rattle.params.proofs.Names.{split_steps, FindsChar, YieldsList, scope_mask}
use Rattle.params.proofs.Tokens.{scope_after}
use Rattle.params.proofs.catalogue.Catalogue.scope_mask.Given as goal

abbrev pub invariant-loop-token : goal.invariant-loop-token
invariant-loop-token l =
    (left : List (List ℕ)) × YieldsList (split_steps FindsChar (λ a b. b ≡ a)) (λ x. x.now) l.token-iterator left
    × (scope_after l.self l.mask left ≡ scope_mask l.self l.text)
