use Rattle.std.proofs.Common.{rules, inl, inr, sym, ap, ◌∙◌}
use Rattle.std.proofs.lemmas.Bool.{eqb-true}
use Rattle.std.proofs.lemmas.List.{nil_from_length}
use Rattle.batch_file.specs.Frames.{lists}
use Rattle.state_account.proofs.file_rules.file_rules.Goals as goal
use Rattle.state_account.proofs.file_rules.file_rules.Goals.{else-not-rules-via-then-not-rules+else-not-is_empty, else-not-rules-via-else-not-rules}

pub returns-clause-told : goal.returns-clause-told
returns-clause-told c =
    elim c.else-not-rules.branch [
      | else-not-rules-via-then-not-rules+else-not-is_empty w ↦
          inl (ap lists (nil_from_length c.args.batches.now (eqb-true _ _ (sym w.is_empty.ensures ∙ w.if-not-is_empty.false))))
      | else-not-rules-via-else-not-rules w ↦ inr (c.in-Ok.ensures.told.0 (search rules))
    ]
