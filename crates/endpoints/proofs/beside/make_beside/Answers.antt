use Rattle.std.proofs.Common.{sym, subst}
use Rattle.consent.specs.Consents.{FitsConsents}
use Rattle.consent.specs.History.{with_changes}
use Rattle.endpoints.proofs.Besides.{left_host, many_consents, many_host, withdrawn_are}
use Rattle.endpoints.proofs.beside.make_beside.Goals as goal

pub returns-in-Left : goal.returns-in-Left
returns-in-Left g c =
    let w = c.in-Left in
    record {
      consents = rw w.is (λ history m fits.
          subst (λ cs. FitsConsents c.withdraw_all.new.self (with_changes history m cs)) (sym (withdrawn_are w.owner w.clients)) (c.withdraw_all.ensures.fits history m fits));
      hosts = rw w.is (left_host g.H.HookHost _ w.owner w.clients _);
    }

pub returns-in_default : goal.returns-in_default
returns-in_default g c = record {
  consents = many_consents _ c.args.changes.now (c.in_default.not-One, c.in_default.not-Left);
  hosts = many_host g.H.HookHost _ c.args.changes.now _ (c.in_default.not-One, c.in_default.not-Left);
}
