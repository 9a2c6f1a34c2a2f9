use Rattle.std.proofs.Common.{◌++◌, ◌∷◌, []}
use Rattle.state_keeper.proofs.Stayed.{stays_written}
use Rattle.state_keeper.proofs.Walked.{not_empty}
use Rattle.state_keeper.proofs.leaving.put_out.Goals as goal

pub returns-clause-put : goal.returns-clause-put
returns-clause-put g c = λ written was. (
  written ++ c.bytes.result.now ∷ [],
  c.in_ok-add.ensures.added written was,
  stays_written c.args.batch.now.facts written c.bytes.result.now c.bytes.ensures.spelled c.bytes.ensures.fits
      (not_empty c.is_empty.result c.args.batch.now.facts c.is_empty.ensures c.if-is_empty.false),
)
