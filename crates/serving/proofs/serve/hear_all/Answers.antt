use Rattle.std.proofs.Common.{rules, ◌≡◌, arith, Err}
use Rattle.serving.specs.Served.{Reading, goes, writes, fails_to_write, closes, stops}
use Rattle.serving.proofs.serve.hear_all.Goals as goal

pub returns-in_err-write_output : goal.returns-in_err-write_output
returns-in_err-write_output g c = λ first run.
    let same : c.from_residual.result ≡ Err c.in_err-write_output.field-0.0 = search rules in
    rw (same, c.in_err-write_output.ensures.fault) (goes (c.loop-pieces.invariant first run) (fails_to_write (Reading c.loop-pieces.pieces) tt c.in_err-write_output.ensures.failed))

pub returns-then-closing : goal.returns-then-closing
returns-then-closing g c = λ first run.
    let wrote = goes (c.loop-pieces.invariant first run) (writes (Reading c.loop-pieces.pieces) tt c.in_ok-write_output.ensures.written) in
    goes wrote (closes c.loop-pieces.pieces c.in_ok-write_output.ensures.written.all (rw c.if-closing.true at c.closing.ensures))

pub returns-in_err-hear : goal.returns-in_err-hear
returns-in_err-hear g c = λ first run.
    let wrote = goes (c.loop-pieces.invariant first run) (writes (Reading c.loop-pieces.pieces) tt c.in_ok-write_output.ensures.written) in
    let same : c.from_residual-in_err-hear.result ≡ Err c.in_err-hear.field-0.0 = search rules in
    rw same (c.in_err-hear.ensures c.loop-pieces.pieces c.loop-pieces-test.true first wrote)

pub returns-in-End : goal.returns-in-End
returns-in-End g c = λ first run.
    let wrote = goes (c.loop-pieces.invariant first run) (writes (Reading c.loop-pieces.pieces) tt c.in_ok-write_output.ensures.written) in
    rw c.in-End.is at (c.in_ok-hear.ensures c.loop-pieces.pieces c.loop-pieces-test.true first wrote)

pub loop-pieces-preserved : goal.loop-pieces-preserved
loop-pieces-preserved g c = λ first run.
    let wrote = goes (c.loop-pieces.invariant first run) (writes (Reading c.loop-pieces.pieces) tt c.in_ok-write_output.ensures.written) in
    rw c.in-Piece.is at (c.in_ok-hear.ensures c.loop-pieces.pieces c.loop-pieces-test.true first wrote)

pub returns : goal.returns
returns g c = λ first run.
    let last : c.loop-pieces.pieces ≡ 1048576 = omega (arith, c.loop-pieces-test.false, c.loop-pieces.auto.pieces-end) in
    goes (rw last at (c.loop-pieces.invariant first run)) stops
