use Rattle.std.proofs.Common.{rules, ◌≡◌, Err, ap, subst, sym}
use Rattle.state_file.proofs.Names.{IfErr, dated_facts}
use Rattle.batch_file.specs.declared.frames.AddFault.{AddFault}
use Rattle.state_file.specs.Faults.{of_adding}
use Rattle.state_file.specs.ShortParts.{IsUnaddedList}
use Rattle.state_file.proofs.Shorts.{unadded_batch, unadded_by}
use Rattle.state_file.proofs.short.add_batch.Goals as goal

pub returns-in_err-add-clause-refused : goal.returns-in_err-add-clause-refused
returns-in_err-add-clause-refused c =
    let facts = dated_facts c.args.changes.now in
    let fault = c.in_err-add.field-0.0 in
    let is : c.from_residual-in_err-add.result ≡ Err (of_adding fault) = search rules in
    subst (λ r. IfErr r (IsUnaddedList facts)) (sym is)
    (unadded_by facts fault (λ long. unadded_batch facts c.in_ok-batch.batch.facts c.bytes.result.now c.in_ok-batch.ensures c.bytes.ensures.spelled (c.in_err-add.ensures.too_long (ap (λ (f : AddFault). Err f) long))))
