use Rattle.std.proofs.Common.{◌≡◌, ◌≢◌, ◌++◌, ◌∷◌, [], rules, sym, ap, ◌∙◌}
use Rattle.assembly.specs.Text.{labelled}
use Rattle.assembler.proofs.Lines.{labelled_colon, labelled_other}
use Rattle.assembler.proofs.line.labelled.Goals as goal

pub returns-in-Some-eq58-default : goal.returns-in-Some-eq58-default
returns-in-Some-eq58-default c =
    let w : c.args.word.now ≡ c.in-Some-eq58-default.name.now ++ 58 ∷ [] = search rules in
    sym (ap labelled w ∙ labelled_colon c.in-Some-eq58-default.name.now)

pub returns-in-Some : goal.returns-in-Some
returns-in-Some c =
    let e = c.in-Some.ensures.cases.0 in
    let other : c.in-Some.field-0.0.now ≢ 58 = search rules in
    sym (ap labelled e ∙ labelled_other c.in-Some.field-0.1.now c.in-Some.field-0.0.now other)
