use Rattle.std.proofs.Common.{refl}
use Rattle.verifier.proofs.Walks.{stuck_refused}
use Rattle.verifier.proofs.walk.pass_last.Goals as goal

pub returns-in-Err : goal.returns-in-Err
returns-in-Err c = (stuck_refused c.args.layout c.args.insn c.args.slot c.args.slots c.args.known.value c.apply.new.self c.in-Err.fault c.requires.writes (rw c.deref.ensures at c.in-Err.ensures.kinds), refl)
