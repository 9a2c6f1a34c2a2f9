use Rattle.std.proofs.Common.{ap, sym, ◌∙◌}
use Rattle.endpoints.proofs.Names.{sent_back, error_text, asked_of, only, setting_of, authorize_known}
use Rattle.std.specs.Prelude.{codes}
use Rattle.endpoints.proofs.authorize.authorize.Goals as goal

pub returns-in-Ok-code_facts-clause-decides : goal.returns-in-Ok-code_facts-clause-decides
returns-in-Ok-code_facts-clause-decides c = λ history host shows.
    c.give_code.ensures.told history host shows ∙ (sym (c.in-Ok.ensures.leads (λ who. authorize_known (setting_of c.args.view.now history host) (asked_of c.args.request.now) c.args.params.now who.0 who.1) ∙ c.in-Ok-code_facts.ensures.decides history host shows))

pub returns-in-Err-code_facts-clause-decides : goal.returns-in-Err-code_facts-clause-decides
returns-in-Err-code_facts-clause-decides c = λ history host shows.
    ap (λ state. only (sent_back c.in-Ok.requester.redirect.now (codes "error") (error_text c.in-Err-code_facts.error) state)) c.get.ensures
    ∙ (sym (c.in-Ok.ensures.leads (λ who. authorize_known (setting_of c.args.view.now history host) (asked_of c.args.request.now) c.args.params.now who.0 who.1) ∙ c.in-Err-code_facts.ensures.decides history host shows))
