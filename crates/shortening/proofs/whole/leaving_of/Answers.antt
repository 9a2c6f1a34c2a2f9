use Rattle.std.proofs.Common.{◌≡◌, ◌-◌, ◌∷◌, [], ℕ, subst, arith, drop, length}
use Rattle.std.proofs.lemmas.List.{drop_all}
use Rattle.change_codec.specs.Spelling.{dated_facts}
use Rattle.shortening.specs.Steps.{IsDeciding}
use Rattle.shortening.proofs.Places.{drop_before}
use Rattle.shortening.proofs.whole.leaving_of.Goals as goal

pub loop-at-init : goal.loop-at-init
loop-at-init c =
    let ds = c.args.changes.now in
    let none : drop (length ds) ds ≡ [] = drop_all (length ds) ds (omega arith) in record {
      within = omega arith;
      deciding = rw none (c.of-deciding.ensures (dated_facts ds) c.requires);
    }

pub loop-at-preserved : goal.loop-at-preserved
loop-at-preserved c =
    let ds = c.args.changes.now in
    let l = c.loop-at in
    let d = c.index-changes-at.result in
    let front : drop (l.at - 1) ds ≡ d ∷ drop l.at ds = drop_before l.at ds d c.loop-at-test.true l.invariant.within c.index-changes-at.is in
    record {
      within = omega (arith, l.invariant.within);
      deciding = rw front (c.in_ok-decide.ensures (dated_facts ds) (dated_facts (drop l.at ds)) c.args.moment l.invariant.deciding);
    }

pub returns : goal.returns
returns c =
    let ds = c.args.changes.now in
    let l = c.loop-at in
    let none : l.at ≡ 0 = omega (arith, c.loop-at-test.false) in
    c.leaving.ensures (dated_facts ds) (dated_facts ds) c.args.moment
    (subst (λ (i : ℕ). IsDeciding l.deciding (dated_facts ds) c.args.moment (dated_facts (drop i ds))) none l.invariant.deciding)
