use Rattle.std.proofs.Common.{ℕ, ◌+◌, ◌∙◌, ap, sym, subst, arith}
use Rattle.consent.specs.History.{withdrawals, with_change, with_changes}
use Rattle.consent.specs.History.Change.{Consented}
use Rattle.consent.specs.Consents.{FitsConsents}
use Rattle.consent.specs.GrowthLaws.{with_changes-more, withdrawals-more}
use Rattle.consent.proofs.consents.Consents.withdraw_all.Goals as goal

pub loop-left-preserved : goal.loop-left-preserved
loop-left-preserved c =
    let owner = c.args.owner in
    let left = c.loop-left.left in
    let before = c.loop-left.invariant in
    record {
      inside = omega (arith, c.loop-left-test.true);
      fits = λ history moment fits.
          let gone = with_changes history moment (withdrawals owner left) in
          subst (λ h. FitsConsents c.withdraw.new.self h)
          (ap (λ (n : ℕ). with_change gone moment (Consented owner n 0)) c.new.ensures
          ∙ sym (ap (with_changes history moment) (withdrawals-more owner left) ∙ with_changes-more history moment (withdrawals owner left) (Consented owner (left + 1) 0)))
          (c.withdraw.ensures.fits gone moment (before.fits history moment fits));
      room = omega (arith, before.room, c.withdraw.ensures.room);
    }
