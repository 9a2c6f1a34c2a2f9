use Rattle.command_line.proofs.making.make_new.Goals as goal

pub returns-clause-written : goal.returns-clause-written
returns-clause-written g c = rw c.in_ok-written.ensures.written c.into_bytes.ensures.readable
