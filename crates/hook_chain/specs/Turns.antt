-- What each hook of a chain leaves of an ask, in its turn.
use Rattle.std.specs.Prelude.{List, [], ◌∷◌}
use Rattle.hook_record.specs.declared.Ask.{Ask}
use Rattle.hook_record.specs.declared.Narrowed.{Narrowed}
use Rattle.hook_record.specs.declared.Narrowed.TheVariants.{Denied, EmptyScope, Allowed}
use Rattle.hook_host.specs.Verdicts.{Verdict, verdict_of}
use Rattle.hook_chain.specs.Chains.{Named}
use Rattle.hook_chain.specs.Exits.{narrowed_further}

-- of an ask of which so much is left before: those that are asked, up to the first that does not allow
abbrev pub left_in_turn : Ask → Narrowed → List Named → List Verdict
left_in_turn ask left [] = []
left_in_turn ask (Allowed scope life) (named ∷ hooks) =
    let left = narrowed_further ask (Allowed scope life) named.hook in
    verdict_of named.name left ∷ left_in_turn ask left hooks
left_in_turn ask Denied (named ∷ hooks) = []
left_in_turn ask EmptyScope (named ∷ hooks) = []

-- of the ask
abbrev pub verdicts_of : List Named → Ask → List Verdict
verdicts_of hooks ask = left_in_turn ask (Allowed ask.scope ask.life) hooks
