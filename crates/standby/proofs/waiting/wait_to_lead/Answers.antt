use Rattle.std.proofs.Common.{◌≡◌, arith}
use Rattle.standby.specs.Waits.{most_tries, refused, too_often}
use Rattle.standby.proofs.Leading.{stopped_by}
use Rattle.standby.proofs.waiting.wait_to_lead.Goals as goal

pub returns-then-code-ne-ENDED-clause-refused : goal.returns-then-code-ne-ENDED-clause-refused
returns-then-code-ne-ENDED-clause-refused g c =
    let prefix = c.args.names.now.prefix.items in
    refused c.in-Err-Refused.code _ c.if-code-ne-ENDED.true
    (stopped_by prefix c.args.seconds c.in-Err-Refused.code c.in-Err-Refused.field-0 _ _ c.in-Err-Refused.ensures c.in-Err-Refused.field-0-is)

pub returns-clause-refused : goal.returns-clause-refused
returns-clause-refused g c =
    let is : c.loop-tries._tries ≡ most_tries = omega arith in
    too_often (rw is at c.loop-tries.invariant.waited)
