use Rattle.std.proofs.Common.{◌≡◌, ◌∙◌, refl}
use Rattle.wire.specs.Format.{ok_is}
use Rattle.rules_codec.specs.Facts.{rules_fact}
use Rattle.state_file.specs.Telling.{rules_of}
use Rattle.state_account.proofs.Accounted.{standing_in, standing_of}
use Rattle.state_account.proofs.account.Account.standing.Goals as goal

pub returns : goal.returns
returns g c = λ left host of.
    let is = standing_of g.H.HookHost c.args.self.now.restored _ c.in_ok-records.records.items c.in_ok-consents.consents.items refl refl refl c.last_family.ensures c.in_ok-hooks.ensures c.in_ok-records.ensures c.in_ok-consents.ensures in
    let rules : rules_of of.registry ≡ rules_fact c.in-Ok.rules =
    ok_is (rules_of of.registry) (rules_fact c.in-Ok.rules) (c.in-Ok.ensures.again (rules_of of.registry) of.rules.0 (c.as_slice.ensures.value ∙ of.rules.1)) in
    standing_in g.H.HookHost c.args.self.now _ refl is left host of rules
