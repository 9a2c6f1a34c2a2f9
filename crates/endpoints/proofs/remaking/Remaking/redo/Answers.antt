use Rattle.std.proofs.Common.{◌≤◌, sym, ◌∙◌, true, false, refl, arith}
use Rattle.endpoints.proofs.Names.{SeenRemaking, RefusesRedo}
use Rattle.endpoints.specs.Faults.{of_again_fault}
use Rattle.endpoints.proofs.Remade.{again_refused, not_right, nowhere_right, of_fault, redone}
use Rattle.endpoints.proofs.remaking.Remaking.redo.Goals as goal

pub returns-in_err-redo-clause-refused : goal.returns-in_err-redo-clause-refused
returns-in_err-redo-clause-refused g c =
    let le : c.self.inside.greatest ≤ c.args.moment = omega (arith, c.if-get.false, c.get.ensures.value, c.get-2.ensures.value) in
    let is : RefusesRedo g.H.HookHost c.args.self.now c.args.moment c.args.change.now (of_again_fault c.in_err-redo.field-0.0) =
    rw (← c.self.view_is) (again_refused g.H.HookHost _ _ c.args.moment c.args.change.now c.in_err-redo.field-0.0 le c.drop_records.ensures c.in_err-redo.ensures.refused) in
    of_fault (RefusesRedo g.H.HookHost c.args.self.now c.args.moment c.args.change.now) c.from_residual.result _ c.from_residual.ensures.1 is

pub returns-then-not-is_right-clause-refused : goal.returns-then-not-is_right-clause-refused
returns-then-not-is_right-clause-refused g c =
    let le : c.self.inside.greatest ≤ c.args.moment = omega (arith, c.if-get.false, c.get.ensures.value, c.get-2.ensures.value) in
    rw (← c.self.view_is) (not_right g.H.HookHost _ _ c.args.moment c.args.change.now le c.drop_records.ensures c.in_ok-redo.ensures.stands
    (λ list store consents. sym (c.is_right-is_right.ensures list c.args.moment store consents) ∙ c.if-not-is_right.true))

pub returns-clause-redone : goal.returns-clause-redone
returns-clause-redone g c =
    let le : c.self.inside.greatest ≤ c.args.moment = omega (arith, c.if-get.false, c.get.ensures.value, c.get-2.ensures.value) in
    let new : SeenRemaking g.row.H.Denot = record {
      rules = c.self.inside.rules;
      host = c.redo_beside.new.host;
      store = c.redo.new.self;
      consents = c.redo_beside.new.consents;
      greatest = c.args.moment;
    } in
    rw (← c.self.view_is) (redone g.H.HookHost _ new _ c.args.moment c.args.change.now le refl refl c.drop_records.ensures c.in_ok-redo.ensures.stands c.in_ok-redo.ensures.redone
    (λ list store consents. sym (c.is_right-is_right.ensures list c.args.moment store consents) ∙ c.if-not-is_right.false)
    c.in_ok-redo_beside.ensures.consents (c.in_ok-redo_beside.ensures.hosts c.args.moment))

pub returns-then-not-is_right-clause-wrong : goal.returns-then-not-is_right-clause-wrong
returns-then-not-is_right-clause-wrong g c is =
    let le : c.self.inside.greatest ≤ c.args.moment = omega (arith, c.if-get.false, c.get.ensures.value, c.get-2.ensures.value) in
    rw (← c.self.view_is) (nowhere_right g.H.HookHost _ _ c.args.moment c.args.change.now le c.drop_records.ensures
    (λ list store consents. sym (c.is_right-is_right.ensures list c.args.moment store consents) ∙ c.if-not-is_right.true))
