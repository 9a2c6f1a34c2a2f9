use Rattle.std.proofs.Common.{sym}
use Rattle.narrowing.proofs.Names.{rules_fact, lists}
use Rattle.state_file.specs.TellingLaws.{told_are}
use Rattle.narrowing.proofs.comparing.last_told.Goals as goal

pub returns-in-Ok-clause-told : goal.returns-in-Ok-clause-told
returns-in-Ok-clause-told c =
    told_are (lists c.args.batches.now) (rules_fact c.in-Ok.told) (c.in-Some.batch.now, sym c.in-Some.ensures, c.in-Ok.ensures.told)
