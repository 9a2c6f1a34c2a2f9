use Rattle.std.proofs.Common.{ap, sym, ◌∙◌}
use Rattle.endpoints.proofs.Names.{setting_of, outcome_told}
use Rattle.endpoints.proofs.Telling.{halts_by, consent_room, no_consent_room}
use Rattle.endpoints.proofs.consenting.consent.Goals as goal

pub returns-in-Err-consented-clause-decides : goal.returns-in-Err-consented-clause-decides
returns-in-Err-consented-clause-decides c = λ history host shows.
    halts_by _ _ _ (c.in-Ok.ensures _) (c.in-Err-consented.ensures history host shows)

pub returns-then-not-has_room-clause-decides : goal.returns-then-not-has_room-clause-decides
returns-then-not-has_room-clause-decides c = λ history host shows.
    let full = rw c.limits-limit.ensures.value at (sym (c.has_room.ensures history shows.consents) ∙ c.if-not-has_room.true) in
    ap (outcome_told (setting_of c.args.view.now history host)) c.unavailable.ensures
    ∙ (sym (c.in-Ok.ensures _ ∙ c.in-Ok-consented.ensures history host shows ∙ no_consent_room (setting_of c.args.view.now history host) _ _ _ full))

pub returns-clause-decides : goal.returns-clause-decides
returns-clause-decides c = λ history host shows.
    let room = rw c.limits-limit.ensures.value at (sym (c.has_room.ensures history shows.consents) ∙ c.if-not-has_room.false) in
    (sym (c.in-Ok.ensures _ ∙ c.in-Ok-consented.ensures history host shows ∙ consent_room (setting_of c.args.view.now history host) _ _ _ room))
