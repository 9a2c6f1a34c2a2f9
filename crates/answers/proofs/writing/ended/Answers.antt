use Rattle.std.proofs.Common.{◌≤◌, length, refl, arith}
use Rattle.std.specs.Prelude.{decimal}
use Rattle.messages.specs.Reply.{ended_body}
use Rattle.messages.specs.SmallLaws.{number_short}
use Rattle.answers.proofs.Names.{plain}
use Rattle.answers.proofs.Sizes.{if_short}
use Rattle.answers.proofs.writing.ended.Goals as goal

pub returns-clause-short : goal.returns-clause-short
returns-clause-short c =
    let families : length (decimal c.args.families) ≤ 20 = number_short c.args.families (omega (arith, c.ranges.families.fits)) in
    let consents : length (decimal c.args.consents) ≤ 20 = number_short c.args.consents (omega (arith, c.ranges.consents.fits)) in
    if_short c.told.result (plain 200 (ended_body c.args.families c.args.consents)) (record { status = refl; short = omega (arith, families, consents) }) (rw c.from.ensures at c.told.ensures)
