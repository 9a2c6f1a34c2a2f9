use Rattle.std.proofs.Common.{rules, ◌≡◌, ◌+◌, ◌++◌, ◌∙◌, List, [], ◌∷◌, Err, take, drop, refl, sym, subst, arith}
use Rattle.consent.specs.History.{Event}
use Rattle.state_file.proofs.Names.{IfErr, common_steps, take_all, DatedChange, dated_fact, dated_facts, MakesAgain, RefusesAgain}
use Rattle.state_file.proofs.Refused.{parted_changes}
use Rattle.state_file.proofs.Remaking.{makes_then}
use Rattle.state_file.proofs.remade.Remade.redo_list.Goals as goal

pub returns-in_err-redo-clause-refused : goal.returns-in_err-redo-clause-refused
returns-in_err-redo-clause-refused g c =
    let changes = c.args.changes.now in
    let i = c.loop-dated.dated-index in
    let item = c.dated-item.result in
    let is : c.from_residual.result ≡ Err c.in_err-redo.field-0.0 = search rules in
    let more : dated_facts (take (i + 1) changes) ≡ dated_facts (take i changes) ++ dated_fact item ∷ [] = grind (arith, common_steps) in
    subst (λ r. IfErr r (RefusesAgain g.H.HookHost c.args.self.now (dated_facts changes))) (sym is) (
      dated_facts (take i changes),
      dated_facts (drop (i + 1) changes),
      dated_fact item,
      parted_changes changes i item more,
      c.loop-dated.self,
      c.loop-dated.invariant.made,
      item.change,
      refl,
      c.in_err-redo.ensures.refused,
    )

pub loop-dated-preserved : goal.loop-dated-preserved
loop-dated-preserved g c =
    let item = c.dated-item.result in
    let before = take c.loop-dated.dated-index c.args.changes.now in
    let more : dated_facts (take (c.loop-dated.dated-index + 1) c.args.changes.now) ≡ dated_facts before ++ dated_fact item ∷ [] = grind (arith, common_steps) in
    record {
      made =
          subst (λ (ds : List Event). MakesAgain g.H.HookHost c.args.self.now ds c.redo.new.self) (sym more)
          (makes_then g.H.HookHost c.args.self.now c.loop-dated.self c.redo.new.self (dated_facts before) (dated_fact item ∷ []) c.loop-dated.invariant.made c.in_ok-redo.ensures.redone);
      rules = c.redo.ensures.rules ∙ c.loop-dated.invariant.rules;
    }

pub returns-clause-redone : goal.returns-clause-redone
returns-clause-redone g c =
    subst (λ (xs : List DatedChange). MakesAgain g.H.HookHost c.args.self.now (dated_facts xs) c.loop-dated.self) (take_all c.loop-dated.dated-index c.args.changes.now c.loop-dated-test.false) c.loop-dated.invariant.made
