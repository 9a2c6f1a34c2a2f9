use Rattle.std.proofs.Common.{inl}
use Rattle.command_line.proofs.Outcomes.{map_err, map_ok}
use Rattle.command_line.proofs.list_performing.put_file.Goals as goal

pub returns-clause-put : goal.returns-clause-put
returns-clause-put g c =
    map_ok _ _ c.list_put.result
    (λ list put. (c.in_ok-frames.frames, c.in_ok-frames.ensures.copied, c.as_bytes.result.now, (c.as_bytes.ensures.batches, c.as_bytes.ensures.readable), put)) c.list_put.ensures.put

pub returns-clause-refused : goal.returns-clause-refused
returns-clause-refused g c = map_err _ _ c.list_put.result (λ fault why. inl why) c.list_put.ensures.refused
