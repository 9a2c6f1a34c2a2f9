use Rattle.std.proofs.Common.{rules, ◌≡◌, Err}
use Rattle.serving.specs.Served.{Ended, goes, ends, ends_nothing, writes, fails_to_write, is_over}
use Rattle.serving.proofs.serve.attend.Goals as goal

pub returns-in-Err : goal.returns-in-Err
returns-in-Err g c = λ first run.
    let read = rw c.in-Finished.is at (c.in_ok-hear_all.ensures first run) in
    rw c.in-Err.ensures.err (goes read (ends_nothing c.in-Err.fault c.in-Err.ensures.refused))

pub returns-in_err-write_output-in-Finished : goal.returns-in_err-write_output-in-Finished
returns-in_err-write_output-in-Finished g c = λ first run.
    let read = rw c.in-Finished.is at (c.in_ok-hear_all.ensures first run) in
    let ended = goes read (ends c.in_default.ensures.done) in
    let same : c.from_residual-in_err-write_output-in-Finished.result ≡ Err c.in_err-write_output-in-Finished.field-0.0 = search rules in
    rw (same, c.in_err-write_output-in-Finished.ensures.fault) (goes ended (fails_to_write Ended tt c.in_err-write_output-in-Finished.ensures.failed))

pub returns-in_ok-write_output-in-Finished : goal.returns-in_ok-write_output-in-Finished
returns-in_ok-write_output-in-Finished g c = λ first run.
    let read = rw c.in-Finished.is at (c.in_ok-hear_all.ensures first run) in
    let ended = goes read (ends c.in_default.ensures.done) in
    goes (goes ended (writes Ended tt c.in_ok-write_output-in-Finished.ensures.written)) (is_over c.in_ok-write_output-in-Finished.ensures.written.all)
