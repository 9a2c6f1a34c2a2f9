use Rattle.std.proofs.Common.{sym, ap}
use Rattle.std.specs.Prelude.{option_map}
use Rattle.consent.specs.History.Change.{HookGone}
use Rattle.endpoints.proofs.Refusing.{refused_rules}
use Rattle.endpoints.proofs.hooks.remove.Goals as goal

pub returns-in-Err-clause-rules : goal.returns-in-Err-clause-rules
returns-in-Err-clause-rules g c = λ s.
    refused_rules g.H.HookHost c.args.host.now s _ (HookGone c.in-Some.name.now) c.in-Err.fault c.refused.result
    (sym (ap (option_map HookGone) c.in-Some.ensures)) c.in-Err.ensures.refused c.refused.ensures.refused
