use Rattle.heads.proofs.Heads.{wants_head, faulty_long}
use Rattle.heads.proofs.front.without_head.Goals as goal

pub returns-then-bytes-lt-HEAD_SIZE_LIMIT : goal.returns-then-bytes-lt-HEAD_SIZE_LIMIT
returns-then-bytes-lt-HEAD_SIZE_LIMIT c = wants_head c.args.bytes.now c.if-bytes-lt-HEAD_SIZE_LIMIT.true c.requires.none c.requires.unfinished

pub returns-else-bytes-lt-HEAD_SIZE_LIMIT : goal.returns-else-bytes-lt-HEAD_SIZE_LIMIT
returns-else-bytes-lt-HEAD_SIZE_LIMIT c = faulty_long c.args.bytes.now c.if-bytes-lt-HEAD_SIZE_LIMIT.false c.requires.none
