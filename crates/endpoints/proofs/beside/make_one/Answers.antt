use Rattle.std.proofs.Common.{[], ◌∷◌, ap, refl}
use Rattle.endpoints.proofs.Names.{change_of, told}
use Rattle.endpoints.proofs.Besides.{one_quiet, quiet_made, quiet_run, step_host, hook_consents, unset_host, kept_host}
use Rattle.endpoints.proofs.beside.make_one.Goals as goal
use Rattle.endpoints.proofs.beside.make_one.Goals.{in-Removes, in_default-checked-2}

pub returns-in-Consented-clause-hosts : goal.returns-in-Consented-clause-hosts
returns-in-Consented-clause-hosts g c =
    let w = c.in-Consented in
    step_host g.H.HookHost _ _ _ c.args.checked (told.Consented w.owner w.client w.mask) (ap change_of w.is) refl

pub returns-in-Installs : goal.returns-in-Installs
returns-in-Installs g c =
    let w = c.in-HookSet in
    record {
      consents = hook_consents _ _ (told.HookSet w.name.now w.version w.code.now) (ap change_of w.is) refl;
      hosts =
          step_host g.H.HookHost _ _ _ c.args.checked (told.HookSet w.name.now w.version w.code.now) (ap change_of w.is)
          (c.take.ensures.done _ _ _ (rw w.is at (rw c.in-Installs.is at c.requires.hook)));
    }

pub returns-in_default-checked : goal.returns-in_default-checked
returns-in_default-checked g c =
    let w = c.in-HookSet in
    record {
      consents = hook_consents _ _ (told.HookSet w.name.now w.version w.code.now) (ap change_of w.is) refl;
      hosts = unset_host g.H.HookHost _ _ c.args.checked _ _ _ w.is c.in_default-checked.not-Installs;
    }

pub returns-after-checked-3-clause-consents : goal.returns-after-checked-3-clause-consents
returns-after-checked-3-clause-consents g c =
    hook_consents _ _ (told.HookGone c.in-HookGone.name.now) (ap change_of c.in-HookGone.is) refl

pub returns-after-checked-3-clause-hosts : goal.returns-after-checked-3-clause-hosts
returns-after-checked-3-clause-hosts g c = elim c.match-checked-3.branch [
  | in-Removes w ↦ rw w.host-is (step_host g.H.HookHost _ _ _ c.args.checked (told.HookGone c.in-HookGone.name.now) (ap change_of c.in-HookGone.is) w.drop_named.ensures.done)
  | in_default-checked-2 w ↦ rw w.host-is (kept_host g.H.HookHost _ _ c.args.checked _ c.in-HookGone.is w.in_default-checked-2.not-Removes)
]

pub returns-in_default : goal.returns-in_default
returns-in_default g c =
    let are = one_quiet c.args.change.now c.in_default.not-Consented c.in_default.not-HookSet c.in_default.not-HookGone in
    record { consents = quiet_made _ (c.args.change.now ∷ []) are; hosts = quiet_run g.H.HookHost _ (c.args.change.now ∷ []) c.args.checked are }
