use Rattle.std.proofs.Common.{◌≤◌, length, length-append, refl, arith, rules}
use Rattle.messages.specs.SmallLaws.{number_short}
use Rattle.answers.proofs.Names.{hook_fault_text, plain, refused_body}
use Rattle.answers.proofs.Sizes.{if_short}
use Rattle.answers.proofs.writing.fault.Goals as goal

-- the slot of the fault is a word, as its field says
pub returns-clause-short : goal.returns-clause-short
returns-clause-short c =
    let word = c.well_formed.1.0 in
    let short : length (hook_fault_text c.args.fault) ≤ 256 = grind (arith, length-append, number_short, word) in
    if_short c.told.result (plain 400 (refused_body (hook_fault_text c.args.fault))) (record { status = refl; short = omega (arith, short) }) (search rules)
