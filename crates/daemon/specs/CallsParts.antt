-- Beside Calls: only the contracts of this crate's own parts and their proofs cite this, no public clause.
use Rattle.std.specs.Prelude.{Some, option_map}
use Rattle.desk.specs.Candidates.{text_of}
use Rattle.outside.specs.Calls.{Asked, Closed, Passed, Tried, read_call, wait_call, write_call}
use Rattle.daemon.specs.Calls.{Logged, Did, Told, Gave, Replied}
use Rattle.daemon.specs.declared.call_log.SystemCall.{SystemCall}
use Rattle.daemon.specs.declared.call_log.SystemCall.TheVariants as made

-- the call that a program makes
abbrev pub call_made : SystemCall → Logged
call_made (made.Wait limit count found) = Did (wait_call limit count found.now)
call_made made.Ask = Did Asked
call_made (made.Accept place came) = Did (Tried place came)
call_made (made.Read place came buffer) = Did (read_call came place buffer.now)
call_made (made.Write place took bytes) = Did (write_call took place bytes.now)
call_made (made.Close place) = Did (Closed place)
call_made (made.Pass place) = Did (Passed place)
call_made (made.Look times) = Told times.now
call_made (made.Draw bytes) = Gave bytes.now
call_made (made.Reply bytes) = Replied (option_map text_of bytes.now)
call_made (made.Tell bytes) = Replied (Some bytes.now)
