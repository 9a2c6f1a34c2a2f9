use Rattle.std.proofs.Common.{◌∷◌, ◌∙◌, List, ℕ, [], sym, subst}
use Rattle.std.proofs.lemmas.Result.{IfErr-weaker, IfOk-weaker}
use Rattle.state_file.proofs.Behind.{behind_told, behind_refused}
use Rattle.state_file.proofs.Names.{AreTold, AreTold-changes, dated_facts}
use Rattle.state_file.proofs.listing.changes_of.Goals as goal

pub returns-in_ok-decode-in_default-clause-told : goal.returns-in_ok-decode-in_default-clause-told
returns-in_ok-decode-in_default-clause-told c =
    let ds = dated_facts c.in_ok-decode-in_default.field-0.items in
    subst (λ (b : List ℕ). AreTold (b ∷ []) ds) (sym c.in_ok-decode-in_default.ensures.spelled) (AreTold-changes ds c.in_ok-decode-in_default.ensures.fits)

pub returns-in-Some-clause-told : goal.returns-in-Some-clause-told
returns-in-Some-clause-told c =
    IfOk-weaker c.changes_behind.result _ _ (λ list behind. behind_told c.args.batch.now c.in-Some.field-0 (dated_facts list.items) (sym c.horizon_in.ensures ∙ c.in-Some.is) behind) c.changes_behind.ensures.told

pub returns-in-Some-clause-refused : goal.returns-in-Some-clause-refused
returns-in-Some-clause-refused c =
    IfErr-weaker c.changes_behind.result _ _ (λ fault none. behind_refused c.args.batch.now c.in-Some.field-0 fault (sym c.horizon_in.ensures ∙ c.in-Some.is) none) c.changes_behind.ensures.refused
