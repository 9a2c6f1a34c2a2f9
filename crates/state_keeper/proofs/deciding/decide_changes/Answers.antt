use Rattle.std.proofs.Common.{◌≡◌, ◌-◌, ◌++◌, [], ◌∷◌, ℕ, drop, length, subst, arith}
use Rattle.std.proofs.lemmas.List.{drop_all}
use Rattle.shortening.specs.Steps.{IsDeciding}
use Rattle.state_keeper.proofs.Names.{dated_facts}
use Rattle.state_keeper.proofs.Places.{drop_before}
use Rattle.state_keeper.proofs.deciding.decide_changes.Goals as goal

pub loop-at-init : goal.loop-at-init
loop-at-init c =
    let ds = c.args.changes.now in
    let none : drop (length ds) ds ≡ [] = drop_all (length ds) ds (omega arith) in record {
      within = omega arith;
      decides = λ history later m is. rw none is;
    }

pub loop-at-preserved : goal.loop-at-preserved
loop-at-preserved c =
    let ds = c.args.changes.now in
    let l = c.loop-at in
    let d = c.index-changes-at.result in
    let front : drop (l.at - 1) ds ≡ d ∷ drop l.at ds = drop_before l.at ds d c.loop-at-test.true l.invariant.within c.index-changes-at.is in
    record {
      within = omega (arith, l.invariant.within);
      decides = λ history later m is. rw front (c.in_ok-decide.ensures history (dated_facts (drop l.at ds) ++ later) m (l.invariant.decides history later m is));
    }

pub returns : goal.returns
returns c = λ history later m is.
    let ds = c.args.changes.now in
    let l = c.loop-at in
    let none : l.at ≡ 0 = omega (arith, c.loop-at-test.false) in
    subst (λ (i : ℕ). IsDeciding l.deciding history m (dated_facts (drop i ds) ++ later)) none (l.invariant.decides history later m is)
