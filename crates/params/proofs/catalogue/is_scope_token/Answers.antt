use Rattle.std.proofs.Common.{arith, rules, tests}
use Rattle.params.proofs.Names.{all_from_yields_List, YieldsList-from_slice, nat_tests, is_scope_character}
use Rattle.params.proofs.catalogue.is_scope_token.Goals as goal

pub returns-then-not-is_empty : goal.returns-then-not-is_empty
returns-then-not-is_empty c =
    let all = all_from_yields_List is_scope_character _ _ c.all.result c.all.ensures.ran (YieldsList-from_slice c.args.text.now cc) (λ x b q k. search (rules, tests)) in
    grind (arith, nat_tests)
