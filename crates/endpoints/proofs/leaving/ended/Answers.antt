use Rattle.std.proofs.Common.{arith}
use Rattle.answers.specs.Views.{setting_of}
use Rattle.endpoints.proofs.Telling.{ended_told}
use Rattle.endpoints.proofs.leaving.ended.Goals as goal

pub returns-clause-told : goal.returns-clause-told
returns-clause-told c = λ history host shows.
    ended_told (setting_of c.args.view.now history host) c.args.owner c.families_of.result c.count_of.result _
    (omega (arith, c.client_count-clients.ensures.value, c.client_count-clients.ensures.few))
    (c.families_of.ensures history shows.store) (c.count_of.ensures history shows.consents)
