use Rattle.std.proofs.Common.{sym, subst}
use Rattle.endpoints.specs.HookAsking.{hook_set_asked}
use Rattle.endpoints.proofs.Refusing.{refused_rules}
use Rattle.endpoints.proofs.hooks.install.Goals as goal
use Rattle.insn.specs.declared.layout.Layout.{Layout}

pub returns-in-Err-clause-rules : goal.returns-in-Err-clause-rules
returns-in-Err-clause-rules g c = λ s.
    refused_rules g.H.HookHost c.args.host.now s _ (hook_set_asked c.args.code.now c.in-Some.asked) c.in-Err.fault c.refused.result
    (sym (c.in-Some.ensures c.args.code.now))
    (subst (λ (layout : Layout). g.H.HookHost.refuses_install c.args.host.now c.in-Some.asked.name.now layout c.args.code.now c.in-Err.fault)
    c.layout_of.ensures c.in-Err.ensures.refused) c.refused.ensures.refused
