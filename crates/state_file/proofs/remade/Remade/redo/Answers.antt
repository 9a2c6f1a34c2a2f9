use Rattle.std.specs.Prelude.{Result}
use Rattle.std.proofs.Common.{rules, ◌≡◌, ◌∙◌, Err, ap, sym, subst}
use Rattle.state_file.proofs.Names.{IfErr, change_of, hooks_with, RefusesToRedo}
use Rattle.endpoints.specs.declared.redo.RedoFault.{RedoFault}
use Rattle.state_file.proofs.Hooked.{hooks_of-with}
use Rattle.state_file.proofs.remade.Remade.redo.Goals as goal

pub returns-clause-redone : goal.returns-clause-redone
returns-clause-redone g c = λ outset list m fits. (
  c.in_ok-redo.ensures.redone outset list m fits.0,
  c.in-Ok.ensures ∙ ap (λ hooks. hooks_with hooks (change_of c.args.dated.now.change)) fits.1 ∙ sym (hooks_of-with list c.args.dated.now.moment (change_of c.args.dated.now.change)),
)

pub returns-in_err-redo-clause-refused : goal.returns-in_err-redo-clause-refused
returns-in_err-redo-clause-refused g c =
    let is : c.from_residual.result ≡ Err c.in_err-redo.field-0.0 = search rules in
    let as_fault : RedoFault → Result (Unit {0}) RedoFault = λ fault. Err fault in
    subst (λ r. IfErr r (RefusesToRedo g.H.HookHost c.args.self.now.server c.args.dated.now.moment c.args.dated.now.change)) (sym is) (c.in_err-redo.ensures.refused, λ same. c.in_err-redo.ensures.wrong (ap as_fault same))

pub returns-in_default-clause-refused : goal.returns-in_default-clause-refused
returns-in_default-clause-refused g c = (tt, λ same. absurd cc)
