use Rattle.std.proofs.Common.{refl, sym, subst, ap, ◌∙◌}
use Rattle.event_loop.proofs.Names.{audits, false≢true, goes}
use Rattle.event_loop.proofs.tools.Tools.hand_on.Goals as goal

pub returns-then-is_empty : goal.returns-then-is_empty
returns-then-is_empty g c = λ first found service past kept served. record { served = served; told = c.is_empty.ensures.0 c.if-is_empty.true }

pub returns : goal.returns
returns g c = λ first found service past kept served.
    rw c.forget.ensures
    (record {
      served = goes served (audits c.audit.new.self kept (λ none. false≢true (sym c.if-is_empty.false ∙ c.is_empty.ensures.1 none))
          (subst (λ rules. g.J.Journal.audits c.args.self.now.journal rules c.args.self.now.tellings c.audit.new.self) (c.rules-rules.ensures ∙ ap (λ server. server.rules) c.server.ensures) c.audit.ensures));
      told = record { told = refl; dropped = refl };
    })
