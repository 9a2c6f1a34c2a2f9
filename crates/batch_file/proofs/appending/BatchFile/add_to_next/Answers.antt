use Rattle.std.proofs.Common.{refl, arith}
use Rattle.batch_file.proofs.Following.{one_next}
use Rattle.batch_file.proofs.appending.BatchFile.add_to_next.Goals as goal

pub returns-clause-added : goal.returns-clause-added
returns-clause-added g c =
    one_next g.D.Device.next _ _ _ _ _ _ _ c.args.batch.now (omega (arith, c.if-batch-ge-LIMIT.false)) c.head_of-head.ensures.bytes c.head_of-head.ensures.digest refl c.in_ok-add_to_next.ensures.added c.in_ok-add_to_next-2.ensures.added c.in_ok-add_to_next-3.ensures.added
