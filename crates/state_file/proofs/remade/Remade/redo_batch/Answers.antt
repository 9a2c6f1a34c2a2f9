use Rattle.std.proofs.Common.{rules, ◌≡◌, List, Err, sym, subst}
use Rattle.state_file.proofs.Names.{IfErr, DatedChange, dated_facts, MakesAgain, RefusesAgain, RefusesOne}
use Rattle.state_file.specs.Faults.{of_redoing}
use Rattle.state_file.proofs.Remaking.{refused_of}
use Rattle.state_file.proofs.remade.Remade.redo_batch.Goals as goal

pub returns-in_err-redo_list-clause-refused : goal.returns-in_err-redo_list-clause-refused
returns-in_err-redo_list-clause-refused g c =
    let fault = c.in_err-redo_list.field-0.0 in
    let facts = dated_facts c.in_ok-changes.changes.items in
    let is : c.from_residual-in_err-redo_list.result ≡ Err (of_redoing fault) = search rules in
    subst (λ r. IfErr r (RefusesOne g.H.HookHost c.args.self.now c.args.batch.now)) (sym is)
    (refused_of g.H.HookHost c.args.self.now c.args.batch.now facts fault c.in_ok-changes.ensures.told
    (subst (λ (xs : List DatedChange). RefusesAgain g.H.HookHost c.args.self.now (dated_facts xs) fault) c.deref.ensures.value c.in_err-redo_list.ensures.refused))

pub returns-clause-redone : goal.returns-clause-redone
returns-clause-redone g c = (
  dated_facts c.in_ok-changes.changes.items,
  c.in_ok-changes.ensures.told,
  subst (λ (xs : List DatedChange). MakesAgain g.H.HookHost c.args.self.now (dated_facts xs) c.redo_list.new.self) c.deref.ensures.value c.in_ok-redo_list.ensures.redone,
)
