use Rattle.std.proofs.Common.{◌∙◌, ap, List}
use Rattle.std.specs.Prelude.{count_by}
use Rattle.std.proofs.lemmas.List.{take_all}
use Rattle.token_store.specs.Image.{as_kept}
use Rattle.consent.specs.declared.kept_record.KeptRecord.{KeptRecord}
use Rattle.narrowing.specs.EndedParts.{ends_kept}
use Rattle.narrowing.specs.KeptLaws.{ended_count-kept}
use Rattle.narrowing.proofs.records.ended_count.Goals as goal

pub returns : goal.returns
returns c = λ history fits.
    c.loop-of.invariant.0
    ∙ ap (λ (xs : List KeptRecord). count_by (ends_kept (record { rules = c.args.rules.now; owners = c.args.owners.now }) c.args.moment) (as_kept xs)) (take_all c.loop-of.of-index c.args.records.now c.loop-of-test.false)
    ∙ ended_count-kept (record { rules = c.args.rules.now; owners = c.args.owners.now }) (as_kept c.args.records.now) history c.args.moment fits
