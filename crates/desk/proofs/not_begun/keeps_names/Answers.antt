use Rattle.std.proofs.Common.{inl}
use Rattle.state_file.specs.BoundsLaws.{are_rules}
use Rattle.state_file.specs.Telling.{rules_of}
use Rattle.desk.proofs.Narrowed.{kept_if, narrow_of, refused_if, wide_of}
use Rattle.desk.proofs.not_begun.keeps_names.Goals as goal

pub returns-in-Ok-clause-kept : goal.returns-in-Ok-clause-kept
returns-in-Ok-clause-kept c =
    inl (wide_of _ _ _ _ (are_rules c.args.told.now c.in_ok-told.told c.in_ok-told.ensures) (are_rules c.args.now.now c.in_ok-now.now c.in_ok-now.ensures) c.in-Ok.ensures.wide)

pub returns-clause-kept : goal.returns-clause-kept
returns-clause-kept c =
    kept_if (rules_of c.args.told.now) (rules_of c.args.now.now) c.in-Err.fault c.may_narrow.result
    (narrow_of _ _ _ _ c.in-Err.fault (are_rules c.args.told.now c.in_ok-told.told c.in_ok-told.ensures) (are_rules c.args.now.now c.in_ok-now.now c.in_ok-now.ensures) c.in-Err.ensures.refused)
    c.may_narrow.ensures.kept

pub returns-clause-refused : goal.returns-clause-refused
returns-clause-refused c =
    refused_if (rules_of c.args.told.now) (rules_of c.args.now.now) c.in-Err.fault c.may_narrow.result
    (narrow_of _ _ _ _ c.in-Err.fault (are_rules c.args.told.now c.in_ok-told.told c.in_ok-told.ensures) (are_rules c.args.now.now c.in_ok-now.now c.in_ok-now.ensures) c.in-Err.ensures.refused)
    c.may_narrow.ensures.refused
