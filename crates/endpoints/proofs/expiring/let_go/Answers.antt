use Rattle.std.proofs.Common.{inl, inr, ◌+◌, ◌≤◌, length, arith}
use Rattle.endpoints.proofs.Names.{nat_tests}
use Rattle.endpoints.proofs.expiring.let_go.Goals as goal

pub loop-moment-init : goal.loop-moment-init
loop-moment-init c = record { fits = λ h fits. fits }

pub loop-moment-preserved : goal.loop-moment-preserved
loop-moment-preserved c = record { fits = λ h fits. c.drop_portion.ensures.fits h (c.loop-moment.invariant.fits h fits) }

pub returns-then-not-drop_portion : goal.returns-then-not-drop_portion
returns-then-not-drop_portion c = record {
  fits = λ h fits. c.drop_portion.ensures.fits h (c.loop-moment.invariant.fits h fits);
  kept = λ h fits. inl (c.drop_portion.ensures.all c.if-not-drop_portion.true h (c.loop-moment.invariant.fits h fits));
}

pub returns : goal.returns
returns c = record {
  fits = c.loop-moment.invariant.fits;
  kept = λ h fits. inr (
      let is = c.kept.ensures in
      let most = c.saturating_sub.ensures in
      let test = c.loop-moment-test.false in
      let less : length c.loop-moment.store.kept + 62 ≤ c.args.before = grind (arith, nat_tests, test, is, most) in
      less);
}
