use Rattle.std.proofs.Common.{sym}
use Rattle.state_account.proofs.account.account_of.Goals as goal

pub returns-clause-told : goal.returns-clause-told
returns-clause-told g c = c.in_ok-account.ensures.told c.args.bytes.now (sym c.in_ok-found.ensures.batches) (sym c.in_ok-found.ensures.torn)
